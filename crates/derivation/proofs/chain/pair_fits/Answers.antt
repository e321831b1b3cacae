use mathlib.Core.Path.{refl}
use Rattle.derivation.specs.Fits.{two_fits_lem}
use Rattle.derivation.proofs.Chaining.{two_stand, two_back}
use Rattle.derivation.proofs.chain.pair_fits.Goals as goal

pub returns-then-two_fits : goal.returns-then-two_fits
returns-then-two_fits c = two_stand c.args.p.one c.args.p.two c.args.p.three (two_fits_lem c.args.n c.args.r c.args.s c.args.t c.args.f) c.two_fits.ensures c.if-two_fits.true

pub returns-then-two_fits-2 : goal.returns-then-two_fits-2
returns-then-two_fits-2 c = two_back c.args.p.one c.args.p.two c.args.p.three (two_fits_lem c.args.n c.args.r c.args.s c.args.t c.args.f) c.two_fits-2.ensures c.if-two_fits-2.true

pub returns : goal.returns
returns c = rw (c.pair_from.ensures, c.pair_from-2.ensures, c.pair_from-3.ensures) refl
