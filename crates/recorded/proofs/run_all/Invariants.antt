use Rattle.std.proofs.Common.{◌≡◌, ◌+◌}
use Rattle.recorded.proofs.run_all.Given as goal

abbrev pub invariant-loop-n : goal.invariant-loop-n
invariant-loop-n l = l.agree + l.differ + 1 ≡ l.n
