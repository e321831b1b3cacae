-- `run_whole` runs on lists of zeros.
use Rattle.saturate.specs.Output.{zeros}
use Rattle.saturate.proofs.run_whole.Goals as goal

pub returns-clause-out_after : goal.returns-clause-out_after
unfolding zeros
returns-clause-out_after c = c.run.ensures.out_after
