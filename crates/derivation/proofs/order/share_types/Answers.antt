use Rattle.derivation.proofs.Orders.{types_none, types_share}
use Rattle.derivation.proofs.order.share_types.Goals as goal

pub returns-then-i-n : goal.returns-then-i-n
returns-then-i-n c =
    λ B t. types_share t c.args.p.one c.args.p.two c.args.p.three c.args.f c.args.g c.bearer-i.ensures.0
    c.bearer-j.ensures.0 c.class_in-c.ensures.0 c.type_of.ensures
    c.type_of-2.ensures
    c.if-i-n.true c.one_class.ensures

pub returns : goal.returns
returns c =
    λ B t. types_none t c.args.p.one c.args.p.two c.args.p.three c.args.f c.args.g c.bearer-i.ensures.0
    c.bearer-j.ensures.0 c.class_in-c.ensures.0 c.type_of.ensures
    c.type_of-2.ensures c.if-i-n.false
