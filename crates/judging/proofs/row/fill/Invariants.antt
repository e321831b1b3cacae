use Prim.Native.Nat.{◌-◌, ◌≤◌}
use Rattle.judging.proofs.Words.{Filling}
use Rattle.judging.proofs.row.fill.Given as goal

abbrev pub invariant-loop-w : goal.invariant-loop-w
invariant-loop-w l = (l.w ≤ 8) × Filling l.initial.acc l.w l.acc

abbrev pub decreases-loop-w : goal.decreases-loop-w
decreases-loop-w l = 8 - l.w
