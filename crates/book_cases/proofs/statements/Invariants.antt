use Prim.Native.Nat.{◌-◌}
use lib.ListN.{length}
use Rattle.book_cases.proofs.statements.Given as goal

abbrev pub decreases-loop-x : goal.decreases-loop-x
decreases-loop-x l = length l.book - l.here
