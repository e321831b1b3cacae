use mathlib.Core.Path.{refl, sym, ◌∙◌}
use Rattle.derivation.proofs.chain.triple_on.Goals as goal

pub returns-then-triple_by : goal.returns-then-triple_by
returns-then-triple_by c = rw (sym c.triple_by.ensures ∙ c.if-triple_by.true) refl

pub returns-then-triple_by-2 : goal.returns-then-triple_by-2
returns-then-triple_by-2 c = rw (sym c.triple_by.ensures ∙ c.if-triple_by.false, sym c.triple_by-2.ensures ∙ c.if-triple_by-2.true) refl

pub returns : goal.returns
returns c =
    rw (sym c.triple_by.ensures ∙ c.if-triple_by.false, sym c.triple_by-2.ensures ∙ c.if-triple_by-2.false)
    c.triple_by-3.ensures
