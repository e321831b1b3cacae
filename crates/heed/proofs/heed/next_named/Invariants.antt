use Prim.Native.Nat.{◌-◌}
use lib.ListN.{length}
use Rattle.heed.specs.Names.{reader_of}
use Rattle.heed.proofs.Laws.{Came}
use Rattle.heed.proofs.heed.next_named.Given as goal

abbrev pub invariant-loop-here : goal.invariant-loop-here
invariant-loop-here l = Came l.book l.counts (reader_of l.names) l.at l.here

abbrev pub decreases-loop-here : goal.decreases-loop-here
decreases-loop-here l = length l.book - l.here
