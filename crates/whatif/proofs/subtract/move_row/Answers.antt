use native.Mathlib.Omega.{arith}
use mathlib.Core.Path.{◌≡◌}
use Rattle.whatif.proofs.Minus.{moved_none, moved_more}
use Rattle.whatif.proofs.subtract.move_row.Goals as goal

pub loop-c-init : goal.loop-c-init
loop-c-init c = (omega arith, moved_none _ _ _)

pub loop-c-preserved : goal.loop-c-preserved
loop-c-preserved c = (omega arith, moved_more c.loop-c.invariant.1 c.requires.0 (omega arith))

pub shape_of-list : goal.shape_of-list
shape_of-list c = c.loop-c.invariant.1.len

pub returns : goal.returns
returns c = let e : c.loop-c.c ≡ c.args.width = omega arith in rw e at c.loop-c.invariant.1
