use Rattle.std.proofs.Common.{◌≤◌}
use Rattle.recorded.proofs.has_every.Given as goal

abbrev pub invariant-loop-entry : goal.invariant-loop-entry
invariant-loop-entry l = l.from ≤ l.end
