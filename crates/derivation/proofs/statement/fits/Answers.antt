use native.Mathlib.Omega.{arith}
use mathlib.Core.Path.{refl}
use Rattle.rules.proofs.Facts.{flipped_id}
use Rattle.derivation.specs.Fits.{fits}
use Rattle.derivation.proofs.Fitting.{path_low}
use Rattle.derivation.proofs.statement.fits.Goals as goal

pub bring_fits-requires : goal.bring_fits-requires
bring_fits-requires c = let w = rw c.in-SubClassOf.is at c.requires.within in record { concepts = c.requires.concepts; c_lt_concepts = (w.0, w.1) }

pub bring_fits-left-requires : goal.bring_fits-left-requires
bring_fits-left-requires c = let w = rw c.in-EquivalentClasses.is at c.requires.within in record { concepts = c.requires.concepts; c_lt_concepts = (w.0, w.1) }

pub bring_fits-right-requires : goal.bring_fits-right-requires
bring_fits-right-requires c = let w = rw c.in-EquivalentClasses.is at c.requires.within in record { concepts = c.requires.concepts; c_lt_concepts = (w.1, w.0) }

pub swap_fits-requires : goal.swap_fits-requires
swap_fits-requires c =
    let w = rw c.in-InverseObjectProperties.is at c.requires.within in
    (omega (arith, w.0, c.requires.concepts.limits.roles_top), omega (arith, w.1, c.requires.concepts.limits.roles_top))

pub swap_fits-requires-in-InverseObjectProperties : goal.swap_fits-requires-in-InverseObjectProperties
swap_fits-requires-in-InverseObjectProperties c =
    let w = rw c.in-InverseObjectProperties.is at c.requires.within in
    (omega (arith, w.1, c.requires.concepts.limits.roles_top), omega (arith, w.0, c.requires.concepts.limits.roles_top))

pub path_fits-requires : goal.path_fits-requires
path_fits-requires c =
    let w = rw c.in-SubObjectPropertyOf.is at c.requires.within in
    (path_low c.args.counts c.requires.concepts.limits.roles_top c.in-SubObjectPropertyOf.sub w.0, omega (arith, w.1, c.requires.concepts.limits.roles_top))

pub two_fits-requires : goal.two_fits-requires
two_fits-requires c =
    let w = rw c.in-TransitiveRole.is at c.requires.within in
    (omega (arith, w, c.requires.concepts.limits.roles_top), omega (arith, w, c.requires.concepts.limits.roles_top), omega (arith, w, c.requires.concepts.limits.roles_top))

pub swap_fits-requires-in-SymmetricRole : goal.swap_fits-requires-in-SymmetricRole
swap_fits-requires-in-SymmetricRole c =
    let w = rw c.in-SymmetricRole.is at c.requires.within in
    (omega (arith, w, c.requires.concepts.limits.roles_top), omega (arith, w, c.requires.concepts.limits.roles_top))

pub join_fits-requires : goal.join_fits-requires
join_fits-requires c =
    let w = rw c.in-FunctionalRole.is at c.requires.within in
    omega (arith, w, c.requires.concepts.limits.roles_top)

pub join_fits-requires-in-InverseFunctionalRole : goal.join_fits-requires-in-InverseFunctionalRole
join_fits-requires-in-InverseFunctionalRole c =
    let w = rw c.in-InverseFunctionalRole.is at c.requires.within in
    rw (c.flip.ensures, flipped_id c.in-InverseFunctionalRole.r) (omega (arith, w, c.requires.concepts.limits.roles_top))

pub domain_fits-requires : goal.domain_fits-requires
domain_fits-requires c = let w = rw c.in-ObjectPropertyDomain.is at c.requires.within in record { concepts = c.requires.concepts; d_lt_concepts = (w.1, omega (arith, w.0, c.requires.concepts.limits.roles_top)) }

pub range_fits-requires : goal.range_fits-requires
range_fits-requires c = let w = rw c.in-ObjectPropertyRange.is at c.requires.within in record { concepts = c.requires.concepts; d_lt_concepts = (w.1, omega (arith, w.0, c.requires.concepts.limits.roles_top)) }

pub told_fits-requires : goal.told_fits-requires
told_fits-requires c = let w = rw c.in-ClassAssertion.is at c.requires.within in record { concepts = c.requires.concepts; d_lt_concepts = (w.0, omega (arith, w.1, c.requires.concepts.limits.individuals_top)) }

pub edge_of-requires : goal.edge_of-requires
edge_of-requires c =
    let w = rw c.in-ObjectPropertyAssertion.is at c.requires.within in
    (omega (arith, w.0, c.requires.concepts.limits.roles_top), omega (arith, w.1, c.requires.concepts.limits.individuals_top), omega (arith, w.2, c.requires.concepts.limits.individuals_top))

pub returns-in-SubClassOf : goal.returns-in-SubClassOf
unfolding fits
returns-in-SubClassOf c = λ B t. rw (c.in-SubClassOf.is, t.counts) (c.bring_fits.ensures B t)

pub returns-in-EquivalentClasses : goal.returns-in-EquivalentClasses
unfolding fits
returns-in-EquivalentClasses c = λ B t. rw (c.in-EquivalentClasses.is, t.counts, c.bring_fits-left.ensures B t, c.bring_fits-right.ensures B t) refl

pub returns-in-DisjointClasses : goal.returns-in-DisjointClasses
unfolding fits
returns-in-DisjointClasses c = λ B t. rw c.in-DisjointClasses.is refl

pub returns-in-InverseObjectProperties : goal.returns-in-InverseObjectProperties
unfolding fits
returns-in-InverseObjectProperties c = λ B t. rw (c.in-InverseObjectProperties.is, t.counts, c.swap_fits.ensures, c.swap_fits-in-InverseObjectProperties.ensures) refl

pub returns-in-SubObjectPropertyOf : goal.returns-in-SubObjectPropertyOf
unfolding fits
returns-in-SubObjectPropertyOf c = λ B t. rw (c.in-SubObjectPropertyOf.is, t.counts) c.path_fits.ensures

pub returns-in-TransitiveRole : goal.returns-in-TransitiveRole
unfolding fits
returns-in-TransitiveRole c = λ B t. rw (c.in-TransitiveRole.is, t.counts) c.two_fits.ensures

pub returns-in-SymmetricRole : goal.returns-in-SymmetricRole
unfolding fits
returns-in-SymmetricRole c = λ B t. rw (c.in-SymmetricRole.is, t.counts) c.swap_fits-in-SymmetricRole.ensures

pub returns-in-FunctionalRole : goal.returns-in-FunctionalRole
unfolding fits
returns-in-FunctionalRole c = λ B t. rw (c.in-FunctionalRole.is, t.counts) c.join_fits.ensures

pub returns-in-InverseFunctionalRole : goal.returns-in-InverseFunctionalRole
unfolding fits
returns-in-InverseFunctionalRole c = λ B t. rw (c.in-InverseFunctionalRole.is, t.counts, ← c.flip.ensures) c.join_fits-in-InverseFunctionalRole.ensures

pub returns-in-ObjectPropertyDomain : goal.returns-in-ObjectPropertyDomain
unfolding fits
returns-in-ObjectPropertyDomain c = λ B t. rw (c.in-ObjectPropertyDomain.is, t.counts) (c.domain_fits.ensures B t)

pub returns-in-ObjectPropertyRange : goal.returns-in-ObjectPropertyRange
unfolding fits
returns-in-ObjectPropertyRange c = λ B t. rw (c.in-ObjectPropertyRange.is, t.counts) (c.range_fits.ensures B t)

pub returns-in-SameIndividual : goal.returns-in-SameIndividual
unfolding fits
returns-in-SameIndividual c = λ B t. rw c.in-SameIndividual.is refl

pub returns-in-ClassAssertion : goal.returns-in-ClassAssertion
unfolding fits
returns-in-ClassAssertion c = λ B t. rw c.in-ClassAssertion.is (c.told_fits.ensures B t)

pub returns-in-ObjectPropertyAssertion : goal.returns-in-ObjectPropertyAssertion
unfolding fits
returns-in-ObjectPropertyAssertion c = λ B t. rw (c.in-ObjectPropertyAssertion.is, c.edge_of.ensures) refl

pub returns-in-DifferentIndividuals : goal.returns-in-DifferentIndividuals
unfolding fits
returns-in-DifferentIndividuals c = λ B t. rw c.in-DifferentIndividuals.is refl

pub returns-in-NegativeObjectPropertyAssertion : goal.returns-in-NegativeObjectPropertyAssertion
unfolding fits
returns-in-NegativeObjectPropertyAssertion c = λ B t. rw c.in-NegativeObjectPropertyAssertion.is refl
