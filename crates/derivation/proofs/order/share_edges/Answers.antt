use mathlib.Core.Path.{refl}
use Rattle.derivation.proofs.Orders.{edges_past, edges_none, edges_share}
use Rattle.derivation.proofs.order.share_edges.Goals as goal

pub returns-then-r-counts : goal.returns-then-r-counts
returns-then-r-counts c = λ B t. edges_past t c.args.p.one c.args.p.two c.args.p.three c.args.f c.args.g c.role_in-r.ensures c.if-r-counts.true

pub returns-then-is_edge : goal.returns-then-is_edge
returns-then-is_edge c =
    λ B t. edges_share t c.args.p.one c.args.p.two c.args.p.three c.args.f c.args.g c.role_in-r.ensures
    c.is_edge.ensures c.is_edge-2.ensures
    c.if-is_edge.true c.requires.0 c.if-r-counts.false refl
    c.leads_from.ensures.0 c.leads_from-then-is_edge.ensures.0 c.one_class-first.ensures
    c.leads_to.ensures.0 c.leads_to-then-is_edge.ensures.0 c.one_class-second.ensures

pub returns : goal.returns
returns c =
    λ B t. edges_none t c.args.p.one c.args.p.two c.args.p.three c.args.f c.args.g c.role_in-r.ensures c.is_edge.ensures
    c.is_edge-2.ensures c.if-is_edge.false refl
