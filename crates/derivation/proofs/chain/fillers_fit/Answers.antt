use mathlib.Core.Path.{refl}
use Rattle.derivation.specs.Fits.{join_fits_lem}
use Rattle.derivation.proofs.Chaining.{two_stand, two_back}
use Rattle.derivation.proofs.chain.fillers_fit.Goals as goal

pub returns-then-join_fits : goal.returns-then-join_fits
returns-then-join_fits c = two_stand c.args.p.one c.args.p.two c.args.p.three (join_fits_lem c.args.n c.args.r c.args.f) c.join_fits.ensures c.if-join_fits.true

pub returns-then-join_fits-2 : goal.returns-then-join_fits-2
returns-then-join_fits-2 c = two_back c.args.p.one c.args.p.two c.args.p.three (join_fits_lem c.args.n c.args.r c.args.f) c.join_fits-2.ensures c.if-join_fits-2.true

pub returns : goal.returns
returns c = rw (c.fillers_from.ensures, c.fillers_from-2.ensures, c.fillers_from-3.ensures) refl
