-- Records that keep to the book's counts.
use Rattle.std.specs.Prelude.{ℕ, ◌+◌, ◌*◌, ◌≤◌, ◌<◌, List, [], ◌∷◌, length}
use Rattle.book.specs.declared.role.Role.{Role}
use Rattle.book.specs.declared.header.Counts.{Counts}
use Rattle.book.specs.declared.concept.Parts.{Parts}
use Rattle.book.specs.declared.concept.ConceptExpr.{ConceptExpr}
use Rattle.book.specs.declared.concept.ConceptExpr.TheVariants.{Top, Bot, Atomic, Nominal, SelfRestriction, Not, And, Or, Some, All, Min, Max}
use Rattle.book.specs.declared.statement.SubRolePath.{SubRolePath}
use Rattle.book.specs.declared.statement.SubRolePath.TheVariants.{One, Two, Three}
use Rattle.book.specs.declared.statement.Axiom.{Axiom}
use Rattle.book.specs.declared.statement.Axiom.TheVariants.{SubClassOf, EquivalentClasses, DisjointClasses, InverseObjectProperties, SubObjectPropertyOf, TransitiveRole, SymmetricRole, FunctionalRole, InverseFunctionalRole, ObjectPropertyDomain, ObjectPropertyRange, SameIndividual, ClassAssertion, ObjectPropertyAssertion, DifferentIndividuals, NegativeObjectPropertyAssertion}
use Rattle.book.specs.declared.statement.Statement.{Statement}
use Rattle.book.specs.Role.{role_id}
use Rattle.book.specs.Field.{number_at_lem}

-- what holds of every member of a list
abbrev pub Every : {A : Type 0} → (A → Type 0) → List A → Type 0
Every P [] = Unit {0}
Every P (x ∷ xs) = P x × Every P xs

abbrev pub RoleWithin : Counts → Role → Type 0
RoleWithin h r = role_id r < h.roles

-- the parts stand in the book, and each has a lower number than k
pub record PartsWithin (s : List ℕ) (k : ℕ) (p : Parts) : Type 0 where
  pub inside : p.at + 2 * p.len ≤ length s
  pub lower : (i : ℕ) → i < p.len → number_at_lem s (p.at + 2 * i) < k

-- the record of concept k: its inner concepts have lower numbers
abbrev pub ConceptWithin : List ℕ → Counts → ℕ → ConceptExpr → Type 0
ConceptWithin s h k Top = Unit {0}
ConceptWithin s h k Bot = Unit {0}
ConceptWithin s h k (Atomic c) = c < h.classes
ConceptWithin s h k (Nominal i) = i < h.individuals
ConceptWithin s h k (SelfRestriction r) = RoleWithin h r
ConceptWithin s h k (Not c) = c < k
ConceptWithin s h k (And p) = PartsWithin s k p
ConceptWithin s h k (Or p) = PartsWithin s k p
ConceptWithin s h k (Some r c) = RoleWithin h r × (c < k)
ConceptWithin s h k (All r c) = RoleWithin h r × (c < k)
ConceptWithin s h k (Min n r c) = RoleWithin h r × (c < k)
ConceptWithin s h k (Max n r c) = RoleWithin h r × (c < k)

abbrev pub PathWithin : Counts → SubRolePath → Type 0
PathWithin h (One r) = RoleWithin h r
PathWithin h (Two r s) = RoleWithin h r × RoleWithin h s
PathWithin h (Three r s t) = RoleWithin h r × RoleWithin h s × RoleWithin h t

abbrev pub Within : Counts → Axiom → Type 0
Within h (SubClassOf c d) = (c < h.concepts) × (d < h.concepts)
Within h (EquivalentClasses c d) = (c < h.concepts) × (d < h.concepts)
Within h (DisjointClasses c d) = (c < h.concepts) × (d < h.concepts)
Within h (InverseObjectProperties r s) = RoleWithin h r × RoleWithin h s
Within h (SubObjectPropertyOf p t) = PathWithin h p × RoleWithin h t
Within h (TransitiveRole r) = RoleWithin h r
Within h (SymmetricRole r) = RoleWithin h r
Within h (FunctionalRole r) = RoleWithin h r
Within h (InverseFunctionalRole r) = RoleWithin h r
Within h (ObjectPropertyDomain r c) = RoleWithin h r × (c < h.concepts)
Within h (ObjectPropertyRange r c) = RoleWithin h r × (c < h.concepts)
Within h (SameIndividual i j) = (i < h.individuals) × (j < h.individuals)
Within h (ClassAssertion c i) = (c < h.concepts) × (i < h.individuals)
Within h (ObjectPropertyAssertion r i j) = RoleWithin h r × (i < h.individuals) × (j < h.individuals)
Within h (DifferentIndividuals i j) = (i < h.individuals) × (j < h.individuals)
Within h (NegativeObjectPropertyAssertion r i j) = RoleWithin h r × (i < h.individuals) × (j < h.individuals)

-- a whole record: what it says keeps to the counts, its source is one of 0 to 1,023, and its period has a day
pub record StatementWithin (h : Counts) (x : Statement) : Type 0 where
  pub body : Within h x.body
  pub source_top : x.source < 1024
  pub period : x.first ≤ x.last
  pub last_top : x.last < 65536
