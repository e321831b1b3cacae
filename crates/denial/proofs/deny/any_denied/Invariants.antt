use Prim.Native.Nat.{◌-◌}
use mathlib.Core.Path.{◌≡◌}
use lib.ListN.{length}
use Rattle.tables.specs.Open.{size_of}
use Rattle.heed.specs.Names.{reader_of}
use Rattle.rounds.specs.View.{held}
use Rattle.denial.proofs.Left.{left}
use Rattle.denial.proofs.deny.any_denied.Given as goal

abbrev pub invariant-loop-statement : goal.invariant-loop-statement
invariant-loop-statement l = left l.book l.counts (reader_of l.names) (held (size_of l.counts) l.labels l.t) l.from ≡ left l.book l.counts (reader_of l.names) (held (size_of l.counts) l.labels l.t) l.at

abbrev pub decreases-loop-statement : goal.decreases-loop-statement
decreases-loop-statement l = length l.book - l.at
