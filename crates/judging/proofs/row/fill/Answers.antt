use native.Mathlib.Omega.{arith}
use Rattle.judging.proofs.Words.{filling_none, filling_more, filling_all}
use Rattle.judging.proofs.row.fill.Goals as goal

pub loop-w-init : goal.loop-w-init
loop-w-init c = (omega arith, filling_none _)

pub loop-w-preserved : goal.loop-w-preserved
loop-w-preserved c = (omega arith, filling_more c.loop-w.invariant.1 (omega arith) (omega (arith, c.loop-w.invariant.1.len)))

pub shape_of-acc : goal.shape_of-acc
shape_of-acc c = c.loop-w.invariant.1.len

pub returns : goal.returns
returns c = filling_all c.loop-w.invariant.1 (omega arith)
