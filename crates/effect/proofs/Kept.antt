-- A statement more takes nothing away: the rules of a book are among those of the larger one, and so are its conclusions and its same pairs.
use Prim.Native.Nat.{ℕ}
use native.Mathlib.Omega.{arith}
use mathlib.Core.Path.{◌≡◌, refl, subst}
use mathlib.Core.Bool.{true}
use mathlib.Core.List.{List, [], ◌∷◌, ◌++◌}
use lib.Dec.{ltb}
use Rattle.book.specs.Statement.{bodies}
use Rattle.book.specs.Book.{Book, with_statements}
use Rattle.book.specs.declared.statement.Axiom.{Axiom}
use Rattle.book.specs.declared.statement.Axiom.TheVariants.{SubClassOf, EquivalentClasses, DisjointClasses, InverseObjectProperties, SubObjectPropertyOf, TransitiveRole, SymmetricRole, FunctionalRole, InverseFunctionalRole, ObjectPropertyDomain, ObjectPropertyRange, SameIndividual, ClassAssertion, ObjectPropertyAssertion, DifferentIndividuals, NegativeObjectPropertyAssertion}
use Rattle.book.specs.declared.statement.Statement.{Statement}
use Rattle.rules.specs.Fact.{pair}
use Rattle.rules.specs.Rule.{Set, Rule, Obeys, every}
use Rattle.rules.specs.Meaning.{rule_of, rules, conclusions}
use Rattle.rules.specs.Same.{same_pair}
use Rattle.rules.specs.Applied.{In, Reached}
use Rattle.rules.proofs.Tests.{and_both, and_intro}
use Rattle.rules.proofs.Laws.{reached_as}
use Rattle.rules.proofs.Inside.{Inside}
use Rattle.rules.proofs.Conclusions.{conclusions_obey, conclusions_least}
use Rattle.effect.specs.Copy.{larger}

-- what does not matter to the rule of a statement: the other statements, and their number
module _ (B : Book) (ys : List Statement) where
  rule_same : (a : Axiom) → rule_of (with_statements B ys) a ≡ rule_of B a
  rule_same (SubClassOf c d) = refl
  rule_same (EquivalentClasses c d) = refl
  rule_same (DisjointClasses c d) = refl
  rule_same (InverseObjectProperties r s) = refl
  rule_same (SubObjectPropertyOf p t) = refl
  rule_same (TransitiveRole r) = refl
  rule_same (SymmetricRole r) = refl
  rule_same (FunctionalRole r) = refl
  rule_same (InverseFunctionalRole r) = refl
  rule_same (ObjectPropertyDomain r c) = refl
  rule_same (ObjectPropertyRange r c) = refl
  rule_same (SameIndividual a b) = refl
  rule_same (ClassAssertion c i) = refl
  rule_same (ObjectPropertyAssertion r a b) = refl
  rule_same (DifferentIndividuals a b) = refl
  rule_same (NegativeObjectPropertyAssertion r a b) = refl

  front_obeys : (S : Set) (xs zs : List Statement) → Obeys (every (bodies (xs ++ zs)) (rule_of (with_statements B ys))) S → Obeys (every (bodies xs) (rule_of B)) S
  front_obeys S [] zs o = λ k l. absurd (omega arith)
  front_obeys S (x ∷ xs) zs o = (subst (λ (R : Rule). Obeys R S) (rule_same x.body) o.0, front_obeys S xs zs o.1)

module _ (B : Book) (y : Statement) where
  abbrev C : Book
  C = larger B y

  -- The rules of the book are among those of the larger one. So an engine may go on from where the present run came to: what was reached by
  -- the book's rules is reached by the copy's.
  pub rules_more : (S : Set) → Obeys (rules C) S → Obeys (rules B) S
  unfolding rules
  rules_more S o = (front_obeys B (B.statements ++ (y ∷ [])) S B.statements (y ∷ []) o.0, o.1)

  pub reached_more : {P Q : Set} {u v : ℕ} → Reached (rules B) P u Q v → Reached (rules C) P u Q v
  reached_more = reached_as rules_more

  module _ (inside : Inside B) (within : Inside C) where
    pub conclusions_more : In (conclusions B) (conclusions C)
    conclusions_more = conclusions_least B inside (conclusions C) (rules_more (conclusions C) (conclusions_obey C within))

    pub pairs_more : (i j : ℕ) → same_pair (conclusions B) i j ≡ true → same_pair (conclusions C) i j ≡ true
    unfolding same_pair
    pairs_more i j q = let a = and_both (ltb i j) (conclusions B (pair i j)) q in and_intro (ltb i j) (conclusions C (pair i j)) a.0 (conclusions_more (pair i j) a.1)
