use native.Mathlib.Omega.{arith}
use Rattle.derivation.proofs.Slots.{value_none, value_fit}
use Rattle.derivation.proofs.statement.value_fits.Goals as goal

pub returns-then-r-ge64 : goal.returns-then-r-ge64
returns-then-r-ge64 c =
    λ B t.
    value_none t c.args.d c.requires.d_lt_concepts.0 c.args.i c.requires.d_lt_concepts.1 c.args.f (omega (arith, c.role_in-r.ensures, c.if-r-ge64.true))

pub returns : goal.returns
returns c =
    λ B t.
    value_fit t c.args.d c.requires.d_lt_concepts.0 c.args.i c.requires.d_lt_concepts.1 c.args.f c.role_in-r.ensures c.if-r-ge64.false c.leads_from-a.ensures c.leads_to-b.ensures c.value_has-named.ensures c.value_has-inverse.ensures
