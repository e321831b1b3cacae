use Rattle.derivation.proofs.Orders.{shared_type, shared_edge}
use Rattle.derivation.proofs.order.share_from.Goals as goal

pub returns-then-share_types : goal.returns-then-share_types
returns-then-share_types c = λ B t. shared_type c.args.p.one c.args.p.two c.args.p.three c.args.counts B c.args.f c.args.g (c.share_types.ensures B t) c.if-share_types.true

pub returns : goal.returns
returns c = λ B t. shared_edge c.args.p.one c.args.p.two c.args.p.three c.args.counts B c.args.f c.args.g (c.share_types.ensures B t) c.if-share_types.false (c.share_edges.ensures B t)
