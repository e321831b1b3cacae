-- A run depends on the statements of a book as a set: order, repeats, sources and days change nothing, and neither does their number in the header.
use Prim.Native.Nat.{ℕ, ◌+◌}
use lib.Dec.{eqb}
use mathlib.Core.Path.{◌≡◌, refl, sym, ap, ap₂, ◌∙◌, subst, fun_ext}
use mathlib.Core.Bool.{Bool, true, false, not, ◌&&◌, ◌||◌}
use mathlib.Core.List.{List, [], ◌∷◌}
use lib.ListN.{length}
use Rattle.book.specs.declared.statement.Axiom.{Axiom}
use Rattle.book.specs.declared.statement.Axiom.TheVariants.{SubClassOf, EquivalentClasses, DisjointClasses, InverseObjectProperties, SubObjectPropertyOf, TransitiveRole, SymmetricRole, FunctionalRole, InverseFunctionalRole, ObjectPropertyDomain, ObjectPropertyRange, SameIndividual, ClassAssertion, ObjectPropertyAssertion, DifferentIndividuals, NegativeObjectPropertyAssertion}
use Rattle.book.specs.declared.statement.Statement.{Statement}
use Rattle.book.specs.declared.role.Role.{Role}
use Rattle.book.specs.declared.role.Role.TheVariants.{Named, Inverse}
use Rattle.book.specs.Header.{counting}
use Rattle.book.specs.Within.{Every}
use Rattle.book.specs.Statement.{bodies}
use Rattle.book.specs.Book.{Book, axioms}
use Rattle.rules.specs.Fact.{Two, Three, type}
use Rattle.rules.specs.Rule.{Set, Rule, Obeys, any, some, every}
use Rattle.rules.specs.Brought.{from}
use Rattle.rules.specs.Same.{functional_by, functional}
use Rattle.rules.specs.Clash.{disjoint_by, disjoint, marks_by, marked, type_clash, both_marked, marker_clash, denied_by, clashes, Mark}
use Rattle.rules.specs.Meaning.{rule_of, rules, conclusions}
use Rattle.rules.specs.Lists.{types, edges, pairs, used}
use Rattle.rules.specs.Ends.{outcome_from}
use Rattle.rules.proofs.Tests.{both_ways, some_none, every_from, from_every}
use Rattle.rules.proofs.Least.{every_obeys, obeys_every}
use Rattle.rules.proofs.Inside.{Inside}
use Rattle.rules.proofs.Conclusions.{conclusions_obey, conclusions_least}

pub none_some : {A : Type 0} (f : A → Bool) (l : List A) → Every (λ x. f x ≡ false) l → some l f ≡ false
none_some f [] h = refl
none_some f (x ∷ l) h = rw h.0 (none_some f l h.1)

same_false : (a b : Bool) → (a ≡ false → b ≡ false) → (b ≡ false → a ≡ false) → a ≡ b
same_false true true p q = refl
same_false true false p q = q refl
same_false false b p q = sym (p refl)

-- lists of statements with the same members
module _ (xs ys : List Axiom) (to : (P : Axiom → Type 0) → Every P xs → Every P ys) (back : (P : Axiom → Type 0) → Every P ys → Every P xs) where
  pub some_same : {A : Type 0} (g : Axiom → List A) (f : A → Bool) → some (from xs g) f ≡ some (from ys g) f
  some_same {A} g f =
      same_false _ _
      (λ e. none_some f (from ys g) (gather_none ys (to None (from_every (λ x. f x ≡ false) g xs (some_none f (from xs g) e)))))
      (λ e. none_some f (from xs g) (gather_none xs (back None (from_every (λ x. f x ≡ false) g ys (some_none f (from ys g) e)))))
    where
      None : Axiom → Type 0
      None x = Every (λ y. f y ≡ false) (g x)

      gather_none : (l : List Axiom) → Every None l → Every (λ y. f y ≡ false) (from l g)
      gather_none l h = every_from None (λ y. f y ≡ false) g (λ x k. k) l h

-- what holds of the records' statements
pub every_bodies : (P : Axiom → Type 0) (xs : List Statement) → Every P (bodies xs) → Every (λ x. P x.body) xs
every_bodies P [] h = tt
every_bodies P (x ∷ xs) h = (h.0, every_bodies P xs h.1)

pub bodies_every : (P : Axiom → Type 0) (xs : List Statement) → Every (λ x. P x.body) xs → Every P (bodies xs)
bodies_every P [] h = tt
bodies_every P (x ∷ xs) h = (h.0, bodies_every P xs h.1)

-- a book with other statements that have the same members
module _ (B : Book) (m : ℕ) (zs : List Statement) (to : (P : Axiom → Type 0) → Every P (axioms B) → Every P (bodies zs)) (back : (P : Axiom → Type 0) → Every P (bodies zs) → Every P (axioms B)) where
  abbrev pub other : Book
  other = record { counts = counting B.counts m; concepts = B.concepts; statements = zs }

  rule_same : (x : Axiom) → rule_of other x ≡ rule_of B x
  rule_same (SubClassOf c d) = refl
  rule_same (EquivalentClasses c d) = refl
  rule_same (DisjointClasses c d) = refl
  rule_same (InverseObjectProperties r s) = refl
  rule_same (SubObjectPropertyOf p t) = refl
  rule_same (TransitiveRole r) = refl
  rule_same (SymmetricRole r) = refl
  rule_same (FunctionalRole r) = refl
  rule_same (InverseFunctionalRole r) = refl
  rule_same (ObjectPropertyDomain r c) = refl
  rule_same (ObjectPropertyRange r c) = refl
  rule_same (SameIndividual i j) = refl
  rule_same (ClassAssertion c i) = refl
  rule_same (ObjectPropertyAssertion r i j) = refl
  rule_same (DifferentIndividuals i j) = refl
  rule_same (NegativeObjectPropertyAssertion r i j) = refl

  disjoint_same : (x : Axiom) → disjoint_by other x ≡ disjoint_by B x
  disjoint_same (SubClassOf c d) = refl
  disjoint_same (EquivalentClasses c d) = refl
  disjoint_same (DisjointClasses c d) = refl
  disjoint_same (InverseObjectProperties r s) = refl
  disjoint_same (SubObjectPropertyOf p t) = refl
  disjoint_same (TransitiveRole r) = refl
  disjoint_same (SymmetricRole r) = refl
  disjoint_same (FunctionalRole r) = refl
  disjoint_same (InverseFunctionalRole r) = refl
  disjoint_same (ObjectPropertyDomain r c) = refl
  disjoint_same (ObjectPropertyRange r c) = refl
  disjoint_same (SameIndividual i j) = refl
  disjoint_same (ClassAssertion c i) = refl
  disjoint_same (ObjectPropertyAssertion r i j) = refl
  disjoint_same (DifferentIndividuals i j) = refl
  disjoint_same (NegativeObjectPropertyAssertion r i j) = refl

  marks_same : (x : Axiom) → marks_by other x ≡ marks_by B x
  marks_same (SubClassOf c d) = refl
  marks_same (EquivalentClasses c d) = refl
  marks_same (DisjointClasses c d) = refl
  marks_same (InverseObjectProperties r s) = refl
  marks_same (SubObjectPropertyOf p t) = refl
  marks_same (TransitiveRole r) = refl
  marks_same (SymmetricRole r) = refl
  marks_same (FunctionalRole r) = refl
  marks_same (InverseFunctionalRole r) = refl
  marks_same (ObjectPropertyDomain r c) = refl
  marks_same (ObjectPropertyRange r c) = refl
  marks_same (SameIndividual i j) = refl
  marks_same (ClassAssertion c i) = refl
  marks_same (ObjectPropertyAssertion r i j) = refl
  marks_same (DifferentIndividuals i j) = refl
  marks_same (NegativeObjectPropertyAssertion r i j) = refl

  obeys_to : (X : Set) → Obeys (rules B) X → Obeys (rules other) X
  unfolding rules
  obeys_to X o = (
    subst (λ (R : Axiom → Rule). Obeys (every (bodies zs) R) X) (sym (fun_ext rule_same)) (every_obeys X (rule_of B) (bodies zs) (to (λ x. Obeys (rule_of B x) X) (obeys_every X (rule_of B) (axioms B) o.0))),
    o.1,
  )

  obeys_back : (X : Set) → Obeys (rules other) X → Obeys (rules B) X
  unfolding rules
  obeys_back X o = (
    every_obeys X (rule_of B) (axioms B) (back (λ x. Obeys (rule_of B x) X) (obeys_every X (rule_of B) (bodies zs) (subst (λ (R : Axiom → Rule). Obeys (every (bodies zs) R) X) (fun_ext rule_same) o.0))),
    o.1,
  )

  module _ (inside : Inside B) (inside' : Inside other) where
    pub conclusions_same : conclusions other ≡ conclusions B
    conclusions_same = fun_ext (λ f. both_ways (conclusions other f) (conclusions B f) (conclusions_least other inside' (conclusions B) (obeys_to (conclusions B) (conclusions_obey B inside)) f) (conclusions_least B inside (conclusions other) (obeys_back (conclusions other) (conclusions_obey other inside')) f))

  -- for any set of facts
  module _ (S : Set) where
    disjoint_some : (f : Two → Bool) → some (disjoint other) f ≡ some (disjoint B) f
    disjoint_some f = ap (λ (g : Axiom → List Two). some (from (bodies zs) g) f) (fun_ext disjoint_same) ∙ sym (some_same (axioms B) (bodies zs) to back (disjoint_by B) f)

    functional_some : (f : Role → Bool) → some (functional other) f ≡ some (functional B) f
    functional_some f = sym (some_same (axioms B) (bodies zs) to back functional_by f)

    marked_same : (x r c : ℕ) → marked other S x r c ≡ marked B S x r c
    unfolding marked
    marked_same x r c = ap (λ (g : Axiom → List Mark). some (from (bodies zs) g) λ m. S (type x m.left) && (eqb m.role r && eqb m.class c)) (fun_ext marks_same) ∙ sym (some_same (axioms B) (bodies zs) to back (marks_by B) λ m. S (type x m.left) && (eqb m.role r && eqb m.class c))

    both_same : (x : ℕ) (p : Two) (r : Role) → both_marked other S x p r ≡ both_marked B S x p r
    both_same x p (Named r) = ap₂ (λ (a : Bool) (b : Bool). a && b) (marked_same x r p.one) (marked_same x r p.other)
    both_same x p (Inverse r) = refl

    type_clash_same : (x : ℕ) → type_clash other S x ≡ type_clash B S x
    unfolding type_clash
    type_clash_same x = disjoint_some _

    marker_clash_same : (x : ℕ) → marker_clash other S x ≡ marker_clash B S x
    unfolding marker_clash
    marker_clash_same x =
        disjoint_some _
        ∙ ap (some (disjoint B)) (fun_ext (λ p. ap (λ (b : Bool). not (eqb p.one p.other) && b) (functional_some (both_marked other S x p) ∙ ap (some (functional B)) (fun_ext (both_same x p)))))

    pub clashes_same : clashes other S ≡ clashes B S
    unfolding clashes
    clashes_same =
        ap₂ (λ (a : Bool) (b : Bool). a || b)
        (ap (any B.counts.individuals) (fun_ext (λ x. ap₂ (λ (a : Bool) (b : Bool). a || b) (type_clash_same x) (marker_clash_same x))))
        (sym (some_same (axioms B) (bodies zs) to back denied_by S))

    pub pairs_same : pairs other S ≡ pairs B S
    unfolding pairs
    pairs_same = refl

    types_same : types other S ≡ types B S
    unfolding types
    types_same = refl

    edges_same : edges other S ≡ edges B S
    unfolding edges
    edges_same = refl

    used_same : used other S ≡ used B S
    unfolding used
    used_same = ap₂ (λ (a : List Two) (b : List Three). length a + length b) types_same edges_same

    -- the ends and the lists
    pub outcome_same : (budget : ℕ) (ts es ps : List ℕ) → outcome_from other S budget ts es ps ≡ outcome_from B S budget ts es ps
    unfolding outcome_from
    outcome_same budget ts es ps = rw (used_same, clashes_same, pairs_same, types_same, edges_same) refl
