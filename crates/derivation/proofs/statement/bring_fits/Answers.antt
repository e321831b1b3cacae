use native.Mathlib.Omega.{arith}
use mathlib.Core.Path.{ap, sym, ◌∙◌}
use borrow.Author.Tests.{eqb-true}
use Rattle.rules.specs.Fact.{type}
use Rattle.derivation.proofs.Slots.{bring_told, bring_other, bring_none}
use Rattle.derivation.proofs.statement.bring_fits.Goals as goal

pub type_of-requires : goal.type_of-requires
type_of-requires c = (
  c.bearer-a.ensures.1,
  omega (
    arith,
    c.class_in-class.ensures,
    (c.requires.concepts.leaf_low c.args.c c.requires.c_lt_concepts.0).class
        (eqb-true _ 1 (sym c.is_atomic.ensures ∙ c.if-is_atomic.true)),
    c.requires.concepts.limits.classes_top,
  ),
)

pub returns-then-a-counts : goal.returns-then-a-counts
returns-then-a-counts c =
    λ B t.
    bring_told t c.args.c c.requires.c_lt_concepts.0 c.args.counts.individuals c.args.d c.args.f c.args.g
    (sym c.is_atomic.ensures ∙ c.if-is_atomic.true)
    c.bearer-a.ensures.0 (c.told_fits.ensures B t)
    (c.type_of.ensures ∙ ap (type _) c.class_in-class.ensures) c.if-a-counts.true

pub returns-then-is_atomic : goal.returns-then-is_atomic
returns-then-is_atomic c =
    λ B t.
    bring_other t c.args.c c.requires.c_lt_concepts.0 c.args.counts.individuals c.args.d c.args.f c.args.g
    (sym c.is_atomic.ensures ∙ c.if-is_atomic.true) c.bearer-a.ensures.0
    (c.type_of.ensures ∙ ap (type _) c.class_in-class.ensures) c.if-a-counts.false

pub returns : goal.returns
returns c =
    λ B t.
    bring_none t c.args.c c.requires.c_lt_concepts.0 c.args.counts.individuals c.args.d c.args.f c.args.g (sym c.is_atomic.ensures ∙ c.if-is_atomic.false)
