use mathlib.Core.Path.{refl}
use Rattle.derivation.proofs.Chaining.{pair_elsewhere}
use Rattle.derivation.proofs.chain.pair_from.Goals as goal

pub returns-then-begins : goal.returns-then-begins
returns-then-begins c = rw (c.two_fits.ensures, c.two_fits-then-begins.ensures, c.two_fits-then-begins-2.ensures) refl

pub returns : goal.returns
returns c = pair_elsewhere c.args.n c.args.r c.args.s c.args.r c.args.t c.args.f c.args.g c.args.p.one c.args.p.two c.args.p.three c.begins.ensures c.if-begins.false
