use native.Mathlib.Omega.{arith}
use mathlib.Core.Path.{◌≡◌}
use Rattle.derivation.proofs.Pairing.{spreads_start, spreads_more}
use Rattle.derivation.proofs.pair.spread.Goals as goal

pub loop-a-init : goal.loop-a-init
loop-a-init c = (omega arith, spreads_start _ _)

pub spread_one-requires : goal.spread_one-requires
spread_one-requires c = (omega arith, omega arith, omega (arith, c.loop-a.invariant.1.len), omega arith)

pub loop-a-preserved : goal.loop-a-preserved
loop-a-preserved c = (omega arith, spreads_more c.loop-a.invariant.1 c.spread_one.ensures)

pub shape_of-pairs : goal.shape_of-pairs
shape_of-pairs c = c.loop-a.invariant.1.len

pub returns : goal.returns
returns c = let e : c.loop-a.a ≡ 256 = omega arith in rw e at c.loop-a.invariant.1
