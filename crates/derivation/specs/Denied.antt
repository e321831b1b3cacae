-- What the statements of a book deny, by number (src/denied.rt).
use Rattle.std.specs.Prelude.{ℕ, ◌≡◌, Bool, true, false, ◌||◌, List, length, eqb, Some}
use Rattle.book.specs.Book.{Book}
use Rattle.book.specs.Reader.{turn_at_lem}
use Rattle.book.specs.declared.header.Counts.{Counts}
use Rattle.book.specs.declared.statement.Statement.{Statement}
use Rattle.book.specs.declared.statement.Axiom.{Axiom}
use Rattle.book.specs.declared.statement.Axiom.TheVariants.{SubClassOf, EquivalentClasses, DisjointClasses, InverseObjectProperties, SubObjectPropertyOf, TransitiveRole, SymmetricRole, FunctionalRole, InverseFunctionalRole, ObjectPropertyDomain, ObjectPropertyRange, SameIndividual, ClassAssertion, ObjectPropertyAssertion, DifferentIndividuals, NegativeObjectPropertyAssertion}
use Rattle.rows.specs.Row.{at}
use Rattle.rules.specs.Fact.{edge}
use Rattle.rules.specs.Rule.{some}
use Rattle.rules.specs.ToldSame.{same}
use Rattle.tables.specs.Open.{book_of}
use Rattle.derivation.specs.Fits.{joins}

-- whether a statement denies anything
abbrev pub is_denial_lem : Axiom → Bool
is_denial_lem (SubClassOf c d) = false
is_denial_lem (EquivalentClasses c d) = false
is_denial_lem (DisjointClasses c d) = false
is_denial_lem (InverseObjectProperties r s) = false
is_denial_lem (SubObjectPropertyOf p t) = false
is_denial_lem (TransitiveRole r) = false
is_denial_lem (SymmetricRole r) = false
is_denial_lem (FunctionalRole r) = false
is_denial_lem (InverseFunctionalRole r) = false
is_denial_lem (ObjectPropertyDomain r c) = false
is_denial_lem (ObjectPropertyRange r c) = false
is_denial_lem (SameIndividual a b) = false
is_denial_lem (ClassAssertion c i) = false
is_denial_lem (ObjectPropertyAssertion r a b) = false
is_denial_lem (DifferentIndividuals a b) = true
is_denial_lem (NegativeObjectPropertyAssertion r a b) = true

-- whether it denies the fact g: the joining of two, whichever number is the lower, or an edge
abbrev pub denies_fact : Axiom → ℕ → Bool
denies_fact (SubClassOf c d) g = false
denies_fact (EquivalentClasses c d) g = false
denies_fact (DisjointClasses c d) g = false
denies_fact (InverseObjectProperties r s) g = false
denies_fact (SubObjectPropertyOf p t) g = false
denies_fact (TransitiveRole r) g = false
denies_fact (SymmetricRole r) g = false
denies_fact (FunctionalRole r) g = false
denies_fact (InverseFunctionalRole r) g = false
denies_fact (ObjectPropertyDomain r c) g = false
denies_fact (ObjectPropertyRange r c) g = false
denies_fact (SameIndividual a b) g = false
denies_fact (ClassAssertion c i) g = false
denies_fact (ObjectPropertyAssertion r a b) g = false
denies_fact (DifferentIndividuals a b) g = joins a b g
denies_fact (NegativeObjectPropertyAssertion r a b) g = eqb g (edge r a b)

-- or what is known without a fact: two of one told class
abbrev pub denies_known : Book → Axiom → Bool
denies_known B (SubClassOf c d) = false
denies_known B (EquivalentClasses c d) = false
denies_known B (DisjointClasses c d) = false
denies_known B (InverseObjectProperties r s) = false
denies_known B (SubObjectPropertyOf p t) = false
denies_known B (TransitiveRole r) = false
denies_known B (SymmetricRole r) = false
denies_known B (FunctionalRole r) = false
denies_known B (InverseFunctionalRole r) = false
denies_known B (ObjectPropertyDomain r c) = false
denies_known B (ObjectPropertyRange r c) = false
denies_known B (SameIndividual a b) = false
denies_known B (ClassAssertion c i) = false
denies_known B (ObjectPropertyAssertion r a b) = false
denies_known B (DifferentIndividuals a b) = same B a b
denies_known B (NegativeObjectPropertyAssertion r a b) = false

-- t is s with the facts that a statement denies
pub record WithDenied (x : Axiom) (s t : List ℕ) : Type 0 where
  pub len : length t ≡ length s
  pub facts : (g : ℕ) → at t g ≡ (at s g || denies_fact x g)

-- the statement at an offset is put down, and y says whether it denies what is known
abbrev pub PutAt : List ℕ → Counts → ℕ → List ℕ → List ℕ → Bool → Type 0
PutAt s h i D E y = (z : Statement) (next : ℕ) → turn_at_lem s h i ≡ Some (z, next) → WithDenied z.body D E × (y ≡ denies_known (book_of s) z.body)

-- the bits of D are the facts that the statements xs deny, and y says whether they deny what is known
pub record Denied (B : Book) (xs : List Axiom) (D : List ℕ) (y : Bool) : Type 0 where
  pub facts : (g : ℕ) → at D g ≡ some xs (λ x. denies_fact x g)
  pub known : y ≡ some xs (denies_known B)
