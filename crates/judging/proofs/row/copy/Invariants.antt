use Prim.Native.Nat.{◌-◌, ◌≤◌}
use Rattle.judging.proofs.Words.{Copying}
use Rattle.judging.proofs.row.copy.Given as goal

abbrev pub invariant-loop-w : goal.invariant-loop-w
invariant-loop-w l = (l.w ≤ 8) × Copying l.initial.t l.k l.acc l.w l.t

abbrev pub decreases-loop-w : goal.decreases-loop-w
decreases-loop-w l = 8 - l.w
