use Prim.Native.Nat.{◌-◌}
use mathlib.Core.Path.{◌≡◌}
use lib.ListN.{length}
use Rattle.writer.specs.Gathering.{Gathering}
use Rattle.writer.specs.Record.{ats, sizes}
use Rattle.writer.proofs.keep.keep_all.Given as goal

abbrev pub invariant-loop-next : goal.invariant-loop-next
invariant-loop-next l =
    Gathering l.book l.counts l.start l.count l.child (ats l.spans) (sizes l.spans) l.here × (length l.child ≡ length l.initial.child) × (length l.spans ≡ length l.initial.spans)

abbrev pub decreases-loop-next : goal.decreases-loop-next
decreases-loop-next l = length l.book - l.here
