use native.Mathlib.Omega.{arith}
use Rattle.judging.proofs.Words.{copying_none, copying_more, copying_all}
use Rattle.judging.proofs.row.copy.Goals as goal

pub loop-w-init : goal.loop-w-init
loop-w-init c = (omega arith, copying_none _ _ _)

pub loop-w-preserved : goal.loop-w-preserved
loop-w-preserved c = (omega arith, copying_more c.loop-w.invariant.1 (omega arith) (omega (arith, c.loop-w.invariant.1.len)))

pub shape_of-t : goal.shape_of-t
shape_of-t c = c.loop-w.invariant.1.len

pub returns : goal.returns
returns c = copying_all c.loop-w.invariant.1 (omega arith)
