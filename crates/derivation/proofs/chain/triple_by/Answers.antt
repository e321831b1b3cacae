use mathlib.Core.Path.{refl}
use Rattle.derivation.proofs.Chaining.{by_none}
use Rattle.derivation.proofs.chain.triple_by.Goals as goal

pub returns-then-goes_on : goal.returns-then-goes_on
returns-then-goes_on c = rw (c.three_fits.ensures, c.three_fits-then-goes_on.ensures, c.three_fits-then-goes_on-2.ensures) refl

pub returns : goal.returns
returns c = by_none c.args.n c.args.path.first c.args.path.second c.args.path.third c.args.path.above c.args.f c.args.g c.args.h c.args.p.one c.args.p.two c.args.p.three c.goes_on.ensures c.if-goes_on.false
