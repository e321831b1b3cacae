-- "Clash": a class and another that is told to be disjoint from it, on one individual; markers that no one filler can have; or a fact that a statement
-- denies.
use Rattle.std.specs.Prelude.{ℕ, Bool, false, not, ◌&&◌, ◌||◌, List, [], ◌∷◌, ◌++◌, eqb}
use Rattle.book.specs.Tree.{Concept}
use Rattle.book.specs.Book.{Book, axioms}
use Rattle.book.specs.declared.role.Role.{Role}
use Rattle.book.specs.declared.role.Role.TheVariants.{Named, Inverse}
use Rattle.book.specs.declared.statement.Axiom.{Axiom}
use Rattle.book.specs.declared.statement.Axiom.TheVariants.{SubClassOf, EquivalentClasses, DisjointClasses, InverseObjectProperties, SubObjectPropertyOf, TransitiveRole, SymmetricRole, FunctionalRole, InverseFunctionalRole, ObjectPropertyDomain, ObjectPropertyRange, SameIndividual, ClassAssertion, ObjectPropertyAssertion, DifferentIndividuals, NegativeObjectPropertyAssertion}
use Rattle.rules.specs.Fact.{edge, type, pair, Two, two}
use Rattle.rules.specs.Rule.{Set, any, some}
use Rattle.rules.specs.Brought.{concept, from, atomic_of, markers}
use Rattle.rules.specs.Same.{functional}

-- a disjoint pair: the two classes of a DisjointClasses of Atomics
abbrev pub disjoint_by : Book → Axiom → List Two
disjoint_by B (SubClassOf c d) = []
disjoint_by B (EquivalentClasses c d) = []
disjoint_by B (DisjointClasses c d) = from (atomic_of (concept B c)) λ x. from (atomic_of (concept B d)) λ y. two x y ∷ []
disjoint_by B (InverseObjectProperties r s) = []
disjoint_by B (SubObjectPropertyOf p t) = []
disjoint_by B (TransitiveRole r) = []
disjoint_by B (SymmetricRole r) = []
disjoint_by B (FunctionalRole r) = []
disjoint_by B (InverseFunctionalRole r) = []
disjoint_by B (ObjectPropertyDomain r c) = []
disjoint_by B (ObjectPropertyRange r c) = []
disjoint_by B (SameIndividual a b) = []
disjoint_by B (ClassAssertion c i) = []
disjoint_by B (ObjectPropertyAssertion r a b) = []
disjoint_by B (DifferentIndividuals a b) = []
disjoint_by B (NegativeObjectPropertyAssertion r a b) = []

abbrev pub disjoint : Book → List Two
disjoint B = from (axioms B) (disjoint_by B)

-- what has the class `left` has the marker (role, class)
pub record Mark : Type 0 where
  pub left : ℕ
  pub role : ℕ
  pub class : ℕ

-- rule 2 for markers: an Atomic side brings those of the other side, of any And depth
abbrev pub bring_marks : Concept → Concept → List Mark
bring_marks left right =
    from (atomic_of left) λ a. from (markers right) λ m. record { left = a; role = m.role; class = m.class } ∷ []

abbrev pub marks_by : Book → Axiom → List Mark
marks_by B (SubClassOf c d) = bring_marks (concept B c) (concept B d)
marks_by B (EquivalentClasses c d) = bring_marks (concept B c) (concept B d) ++ bring_marks (concept B d) (concept B c)
marks_by B (DisjointClasses c d) = []
marks_by B (InverseObjectProperties r s) = []
marks_by B (SubObjectPropertyOf p t) = []
marks_by B (TransitiveRole r) = []
marks_by B (SymmetricRole r) = []
marks_by B (FunctionalRole r) = []
marks_by B (InverseFunctionalRole r) = []
marks_by B (ObjectPropertyDomain r c) = []
marks_by B (ObjectPropertyRange r c) = []
marks_by B (SameIndividual a b) = []
marks_by B (ClassAssertion c i) = []
marks_by B (ObjectPropertyAssertion r a b) = []
marks_by B (DifferentIndividuals a b) = []
marks_by B (NegativeObjectPropertyAssertion r a b) = []

abbrev pub marks : Book → List Mark
marks B = from (axioms B) (marks_by B)

-- the individual x has the marker (r,c)
unfoldable pub marked : Book → Set → ℕ → ℕ → ℕ → Bool
marked B S x r c = some (marks B) λ m. S (type x m.left) && (eqb m.role r && eqb m.class c)

-- both classes of a disjoint pair, which may be one class
unfoldable pub type_clash : Book → Set → ℕ → Bool
type_clash B S x = some (disjoint B) λ p. S (type x p.one) && S (type x p.other)

-- a functional role that is named, with a marker for either class
abbrev pub both_marked : Book → Set → ℕ → Two → Role → Bool
both_marked B S x p (Named r) = marked B S x r p.one && marked B S x r p.other
both_marked B S x p (Inverse r) = false

-- markers of two different classes of a disjoint pair, under one role that is functional as named
unfoldable pub marker_clash : Book → Set → ℕ → Bool
marker_clash B S x = some (disjoint B) λ p. not (eqb p.one p.other) && some (functional B) (both_marked B S x p)

-- the fact that a statement denies: that two are in one class, or an edge
abbrev pub denied_by : Axiom → List ℕ
denied_by (SubClassOf c d) = []
denied_by (EquivalentClasses c d) = []
denied_by (DisjointClasses c d) = []
denied_by (InverseObjectProperties r s) = []
denied_by (SubObjectPropertyOf p t) = []
denied_by (TransitiveRole r) = []
denied_by (SymmetricRole r) = []
denied_by (FunctionalRole r) = []
denied_by (InverseFunctionalRole r) = []
denied_by (ObjectPropertyDomain r c) = []
denied_by (ObjectPropertyRange r c) = []
denied_by (SameIndividual a b) = []
denied_by (ClassAssertion c i) = []
denied_by (ObjectPropertyAssertion r a b) = []
denied_by (DifferentIndividuals a b) = pair a b ∷ []
denied_by (NegativeObjectPropertyAssertion r a b) = edge r a b ∷ []

abbrev pub denied : Book → List ℕ
denied B = from (axioms B) denied_by

-- types of one individual that clash
abbrev pub by_types : Book → Set → Bool
by_types B S = any B.counts.individuals λ x. type_clash B S x || marker_clash B S x

unfoldable pub clashes : Book → Set → Bool
clashes B S = by_types B S || some (denied B) S
