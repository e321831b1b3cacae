use Rattle.derivation.proofs.Chaining.{triple_elsewhere}
use Rattle.derivation.proofs.chain.triple_from.Goals as goal

pub returns : goal.returns
returns c = triple_elsewhere c.args.n c.args.path.first c.args.path.second c.args.path.third c.args.path.above c.args.f c.args.g c.args.p.one c.args.p.two c.args.p.three c.begins.ensures c.if-begins.false
