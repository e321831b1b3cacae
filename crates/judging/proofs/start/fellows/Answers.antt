use Rattle.judging.proofs.Starting.{fellows_none, fellows_more}
use Rattle.judging.proofs.start.fellows.Goals as goal

pub loop-l-init : goal.loop-l-init
loop-l-init c = fellows_none _ _ _

pub loop-l-preserved : goal.loop-l-preserved
loop-l-preserved c = fellows_more c.loop-l.invariant c.put_row.ensures
