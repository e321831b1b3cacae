-- More facts leave a clash a clash, and what is denied denied; two uses of rule 6 change both ends, inside told classes and across joinings; and a rule 7 for different fillers
-- asks no more than one for any two.
use Prim.Native.Nat.{ℕ, ◌<◌}
use mathlib.Core.Path.{◌≡◌, sym, subst}
use mathlib.Core.Bool.{Bool, true, false, not, ◌&&◌, ◌||◌}
use mathlib.Core.List.{List, [], ◌∷◌}
use mathlib.Core.Logic.{⊎_elim}
use lib.Dec.{eqb, ltb}
use Rattle.book.specs.Book.{Book, axioms}
use Rattle.book.specs.Within.{Every, Within}
use Rattle.book.specs.declared.statement.Axiom.{Axiom}
use Rattle.book.specs.declared.statement.Axiom.TheVariants.{SubClassOf, EquivalentClasses, DisjointClasses, InverseObjectProperties, SubObjectPropertyOf, TransitiveRole, SymmetricRole, FunctionalRole, InverseFunctionalRole, ObjectPropertyDomain, ObjectPropertyRange, SameIndividual, ClassAssertion, ObjectPropertyAssertion, DifferentIndividuals, NegativeObjectPropertyAssertion}
use Rattle.book.specs.declared.role.Role.{Role}
use Rattle.book.specs.declared.role.Role.TheVariants.{Named, Inverse}
use Rattle.rules.specs.Fact.{edge, type, pair, Two}
use Rattle.rules.specs.Rule.{Set, Rule, Obeys, any, some}
use Rattle.rules.specs.ToldSame.{same}
use Rattle.rules.specs.Meaning.{join, one_class_lem, rules}
use Rattle.rules.specs.Same.{functional}
use Rattle.rules.specs.Clash.{disjoint, marks, marked, both_marked, type_clash, marker_clash, by_types, denied_by, denied}
use Rattle.rules.specs.Applied.{In}
use Rattle.rules.proofs.Tests.{false_true, or_cases, or_left, or_right, and_both, and_intro, any_some, some_any}
use Rattle.rules.proofs.Least.{given_obeys}
use Rattle.rules.proofs.Inside.{Inside}
use Rattle.rules.proofs.Classes.{class_turn}
use Rattle.rules.proofs.Held.{told_pair_lem}
use Rattle.tables.proofs.Members.{some_from}
use Rattle.derivation.specs.Accept.{join_other, across, sharing_both, denies_one, denies}

-- a implies b, as tests
abbrev pub Up : Bool → Bool → Type 0
Up a b = a ≡ true → b ≡ true

and_up : (a b c d : Bool) → Up a c → Up b d → Up (a && b) (c && d)
and_up a b c d f g e = let h = and_both a b e in and_intro c d (f h.0) (g h.1)

or_up : (a b c d : Bool) → Up a c → Up b d → Up (a || b) (c || d)
or_up a b c d f g e = ⊎_elim (λ h. or_left c d (f h)) (λ h. or_right c d (g h)) (or_cases a b e)

any_up : (n : ℕ) (f g : ℕ → Bool) → ((k : ℕ) → Up (f k) (g k)) → Up (any n f) (any n g)
any_up n f g h e = let a = any_some n f e in some_any n g a.0 a.1 (h a.0 a.2)

some_in : {A : Type 0} (Q : A → Type 0) (f g : A → Bool) → ((x : A) → Q x → Up (f x) (g x)) → (l : List A) → Every Q l → Up (some l f) (some l g)
some_in Q f g h [] w = λ e. e
some_in Q f g h (x ∷ l) w = or_up (f x) (some l f) (g x) (some l g) (h x w.0) (some_in Q f g h l w.1)

some_up : {A : Type 0} (l : List A) (f g : A → Bool) → ((x : A) → Up (f x) (g x)) → Up (some l f) (some l g)
some_up [] f g h = λ e. e
some_up (x ∷ l) f g h = or_up (f x) (some l f) (g x) (some l g) (h x) (some_up l f g h)

module _ (B : Book) (P S : Set) (within : In P S) where
  marked_up : (x r c : ℕ) → Up (marked B P x r c) (marked B S x r c)
  unfolding marked
  marked_up x r c = some_up (marks B) _ _ λ m. and_up _ _ _ _ (within (type x m.left)) (λ e. e)

  type_clash_up : (x : ℕ) → Up (type_clash B P x) (type_clash B S x)
  unfolding type_clash
  type_clash_up x = some_up (disjoint B) _ _ λ p. and_up _ _ _ _ (within (type x p.one)) (within (type x p.other))

  both_marked_up : (x : ℕ) (p : Two) (r : Role) → Up (both_marked B P x p r) (both_marked B S x p r)
  both_marked_up x p (Named r) = and_up _ _ _ _ (marked_up x r p.one) (marked_up x r p.other)
  both_marked_up x p (Inverse r) = λ e. e

  marker_clash_up : (x : ℕ) → Up (marker_clash B P x) (marker_clash B S x)
  unfolding marker_clash
  marker_clash_up x = some_up (disjoint B) _ _ λ p. and_up (not (eqb p.one p.other)) _ _ _ (λ e. e) (some_up (functional B) _ _ (both_marked_up x p))

  pub types_up : by_types B P ≡ true → by_types B S ≡ true
  types_up = any_up B.counts.individuals _ _ λ x. or_up _ _ _ _ (type_clash_up x) (marker_clash_up x)

-- what changes i to j, in a set where told-same individuals are a pair
module _ (B : Book) (inside : Inside B) (S : Set) (obeys : Obeys (rules B) S) where
  abbrev n : ℕ
  n = B.counts.individuals

  classes : Obeys (rules B) S → Obeys (one_class_lem n) S
  unfolding rules
  classes o = o.1.0

  across_obeys : (i j : ℕ) (R : Rule) → i < n → j < n → (S (pair i j) ≡ true → Obeys R S) → Obeys (across B i j R) S
  unfolding rules
  across_obeys i j R l m r = (
    given_obeys S (same B i j) R (λ e. r (told_pair_lem B inside S obeys i j l m e)),
    (r, λ e. r (class_turn n S obeys.1.0 j i m l e)),
  )

  pub sharing_both_lem : Obeys (sharing_both B) S
  unfolding rules
  sharing_both_lem = (
    λ i k j l. across_obeys i j _ k l (λ e. (obeys.1.1 i k j l e).0),
    λ i k j l. across_obeys i j _ k l (λ e a m b o. across_obeys a b _ m o (λ g r q h. ((obeys.1.1 a m b o g).1 r q j l).1 (((obeys.1.1 i k j l e).1 r q a m).0 h))),
  )

  -- a statement that denies what is known or in a part of the set denies a fact of it
  module _ (P : Set) (within : In P S) where
    denied_in_lem : (s : Axiom) → Within B.counts s → Up (denies_one B P s) (some (denied_by s) S)
    denied_in_lem (SubClassOf c d) w = false_true
    denied_in_lem (EquivalentClasses c d) w = false_true
    denied_in_lem (DisjointClasses c d) w = false_true
    denied_in_lem (InverseObjectProperties r s) w = false_true
    denied_in_lem (SubObjectPropertyOf p t) w = false_true
    denied_in_lem (TransitiveRole r) w = false_true
    denied_in_lem (SymmetricRole r) w = false_true
    denied_in_lem (FunctionalRole r) w = false_true
    denied_in_lem (InverseFunctionalRole r) w = false_true
    denied_in_lem (ObjectPropertyDomain r c) w = false_true
    denied_in_lem (ObjectPropertyRange r c) w = false_true
    denied_in_lem (SameIndividual a b) w = false_true
    denied_in_lem (ClassAssertion c i) w = false_true
    denied_in_lem (ObjectPropertyAssertion r a b) w = false_true
    denied_in_lem (DifferentIndividuals a b) w = λ e.
        or_left (S (pair a b)) false
        (⊎_elim (told_pair_lem B inside S obeys a b w.0 w.1)
        (λ q. ⊎_elim (within (pair a b)) (λ z. class_turn n S (classes obeys) b a w.1 w.0 (within (pair b a) z)) (or_cases (P (pair a b)) (P (pair b a)) q))
        (or_cases (same B a b) (P (pair a b) || P (pair b a)) e))
    denied_in_lem (NegativeObjectPropertyAssertion r a b) w = λ e. or_left (S (edge r a b)) false (within (edge r a b) e)

    pub denies_in : denies B P ≡ true → some (denied B) S ≡ true
    unfolding denies
    denies_in e =
        subst (λ (z : Bool). z ≡ true) (sym (some_from S denied_by (axioms B)))
        (some_in (Within B.counts) (denies_one B P) (λ s. some (denied_by s) S) denied_in_lem (axioms B) inside.statements e)

pub join_other_lem : (S : Set) (n : ℕ) (r : Role) → Obeys (join n r) S → Obeys (join_other n r) S
join_other_lem S n r o = λ a i b j e c l f. given_obeys S (ltb b c) _ (λ q. o a i b j e c l f)
