use native.Mathlib.Omega.{arith}
use mathlib.Core.Path.{◌≡◌}
use Rattle.derivation.proofs.Leaves.{wide_none, wide_more}
use Rattle.derivation.proofs.deep.unite_wide.Goals as goal

pub loop-i-init : goal.loop-i-init
loop-i-init c = (omega arith, wide_none _ _ _)

pub unite-requires : goal.unite-requires
unite-requires c = (omega (arith, c.loop-i.invariant.1.len), omega (arith, c.loop-i.invariant.1.len), λ e. c.requires.2 (omega arith))

pub loop-i-preserved : goal.loop-i-preserved
loop-i-preserved c = (omega arith, wide_more c.requires.2 c.loop-i-test.true c.loop-i.invariant.1 c.unite.ensures)

pub shape_of-deep : goal.shape_of-deep
shape_of-deep c = c.loop-i.invariant.1.len

pub returns : goal.returns
returns c = let e : c.loop-i.i ≡ 8 = omega arith in rw e at c.loop-i.invariant.1
