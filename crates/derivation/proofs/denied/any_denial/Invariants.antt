use Prim.Native.Nat.{◌-◌, ◌≤◌}
use Rattle.derivation.proofs.Noting.{Quiet}
use Rattle.derivation.proofs.denied.any_denial.Given as goal

abbrev pub invariant-loop-k : goal.invariant-loop-k
invariant-loop-k l = (l.k ≤ l.n) × Quiet l.book l.k

abbrev pub decreases-loop-k : goal.decreases-loop-k
decreases-loop-k l = l.n - l.k
