use Rattle.derivation.specs.Fits.{three_fits_lem}
use Rattle.derivation.proofs.Chaining.{three_stand, order_third, order_second, order_first}
use Rattle.derivation.proofs.chain.triple_fits.Goals as goal

pub returns-then-three_fits : goal.returns-then-three_fits
returns-then-three_fits c = three_stand c.args.p.one c.args.p.two c.args.p.three (three_fits_lem c.args.n c.args.path.first c.args.path.second c.args.path.third c.args.path.above c.args.f) c.three_fits.ensures c.if-three_fits.true

pub returns-then-triple_from : goal.returns-then-triple_from
returns-then-triple_from c = order_third c.args.p.one c.args.p.two c.args.p.three (three_fits_lem c.args.n c.args.path.first c.args.path.second c.args.path.third c.args.path.above c.args.f) c.triple_from.ensures c.if-triple_from.true

pub returns-then-triple_from-2 : goal.returns-then-triple_from-2
returns-then-triple_from-2 c = order_second c.args.p.one c.args.p.two c.args.p.three (three_fits_lem c.args.n c.args.path.first c.args.path.second c.args.path.third c.args.path.above c.args.f) c.triple_from-2.ensures c.if-triple_from-2.true

pub returns : goal.returns
returns c =
    order_first c.args.p.one c.args.p.two c.args.p.three (three_fits_lem c.args.n c.args.path.first c.args.path.second c.args.path.third c.args.path.above c.args.f) c.triple_from.ensures
    c.if-triple_from.false c.triple_from-2.ensures c.if-triple_from-2.false c.triple_from-3.ensures
