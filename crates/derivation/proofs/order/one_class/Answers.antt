use mathlib.Core.Path.{refl, sym, ◌∙◌}
use Rattle.derivation.proofs.Orders.{told_class}
use Rattle.derivation.proofs.order.one_class.Goals as goal

pub returns-then-told_same : goal.returns-then-told_same
returns-then-told_same c = told_class c.args.n c.args.labels.now c.args.i c.args.j c.args.p.one c.args.p.two c.args.p.three c.told_same.ensures c.if-told_same.true

pub returns : goal.returns
returns c =
    rw (
      sym c.told_same.ensures ∙ c.if-told_same.false,
      c.joins.ensures,
      c.joins-2.ensures,
      c.joins-3.ensures,
    ) refl
