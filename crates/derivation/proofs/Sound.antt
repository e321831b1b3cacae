-- A row that stands has its fact in the smallest sets of the book, and so a joining row is a same pair; a clash row that stands means that the book
-- clashes.
use Prim.Native.Nat.{ℕ, zero, suc, ◌<◌}
use native.Mathlib.Decide.{ℕ_discrete}
use native.Mathlib.Omega.{arith}
use mathlib.Core.Path.{◌≡◌, refl, sym, subst}
use mathlib.Core.Bool.{Bool, true, false, ◌&&◌, ◌||◌}
use mathlib.Core.List.{List, [], ◌∷◌}
use mathlib.Core.Logic.{⊎_elim}
use lib.ListN.{length}
use lib.Dec.{eqb, ltb}
use borrow.Author.Tests.{eqb-true, ltb-true}
use Rattle.book.specs.Read.{pick}
use Rattle.book.specs.Book.{Book, accepted, decode}
use Rattle.book.specs.Within.{Every}
use Rattle.book.specs.declared.statement.Axiom.{Axiom}
use Rattle.rules.specs.Fact.{pair}
use Rattle.rules.specs.Rule.{Set, Obeys, some, yields}
use Rattle.rules.specs.Meaning.{rule_of, rules, conclusions}
use Rattle.rules.specs.Same.{same_pair}
use Rattle.rules.specs.Clash.{by_types, denied, clashes}
use Rattle.rules.specs.Applied.{In}
use Rattle.rules.specs.World.{World, Fits}
use Rattle.rules.proofs.Tests.{false_true, or_cases, or_left, or_right, and_both, and_intro, every_some}
use Rattle.rules.proofs.Least.{yields_in, obeys_every}
use Rattle.rules.proofs.Inside.{Inside, accepted_inside}
use Rattle.rules.proofs.Conclusions.{conclusions_obey}
use Rattle.rules.proofs.Sound.{truth, conclusions_true, to_pair}
use Rattle.book.specs.declared.statement.Axiom.TheVariants.{SubClassOf, EquivalentClasses, DisjointClasses, InverseObjectProperties, SubObjectPropertyOf, TransitiveRole, SymmetricRole, FunctionalRole, InverseFunctionalRole, ObjectPropertyDomain, ObjectPropertyRange, SameIndividual, ClassAssertion, ObjectPropertyAssertion, DifferentIndividuals, NegativeObjectPropertyAssertion}
use Rattle.book.specs.Role.{flipped}
use Rattle.derivation.specs.declared.row.Row.{Row}
use Rattle.derivation.specs.Rows.{none, row_at, Claim, fact, clash, nothing, claim, says, says_row, before, named, earlier}
use Rattle.derivation.specs.Accept.{statements, rule_number_lem, use_of, member, by_axiom, by_statement_lem, sharing_both, by_sharing_lem, denies, by_clash_lem, follows, claim_at, accepts, standing, stands}
use Rattle.derivation.proofs.Mono.{types_up, denies_in, sharing_both_lem, join_other_lem}

-- what a row claims is right: the fact is in the set, the set clashes
abbrev pub Right : Book → Set → Claim → Type 0
Right B S (fact f) = S f ≡ true
Right B S clash = clashes B S ≡ true
Right B S nothing = ⊥

pub member_every : {A : Type 0} (Q : A → Type 0) (l : List A) (k : ℕ) → Every Q l → Every Q (member l k)
member_every Q [] k h = tt
member_every Q (x ∷ l) zero h = (h.0, tt)
member_every Q (x ∷ l) (suc k) h = member_every Q l k h.1

-- a set that obeys a statement's rule obeys one use of it
use_obeys : (B : Book) (S : Set) (x : Axiom) → Obeys (rule_of B x) S → Obeys (use_of B x) S
use_obeys B S (SubClassOf c d) o = o
use_obeys B S (EquivalentClasses c d) o = o
use_obeys B S (DisjointClasses c d) o = o
use_obeys B S (InverseObjectProperties r s) o = o
use_obeys B S (SubObjectPropertyOf p t) o = o
use_obeys B S (TransitiveRole r) o = o
use_obeys B S (SymmetricRole r) o = o
use_obeys B S (FunctionalRole r) o = join_other_lem S B.counts.individuals r o
use_obeys B S (InverseFunctionalRole r) o = join_other_lem S B.counts.individuals (flipped r) o
use_obeys B S (ObjectPropertyDomain r c) o = o
use_obeys B S (ObjectPropertyRange r c) o = o
use_obeys B S (SameIndividual a b) o = λ k l. absurd (omega arith)
use_obeys B S (ClassAssertion c i) o = o
use_obeys B S (ObjectPropertyAssertion r a b) o = o
use_obeys B S (DifferentIndividuals a b) o = o
use_obeys B S (NegativeObjectPropertyAssertion r a b) o = o

-- what follows from a part of a set that obeys the rules is right of the set
module _ (B : Book) (inside : Inside B) (P S : Set) (obeys : Obeys (rules B) S) (within : In P S) (r : Row) where
  statement_right : (f : ℕ) → by_statement_lem B r P f ≡ true → S f ≡ true
  unfolding by_statement_lem rules
  statement_right f e =
      let m = member_every (λ s. Obeys (rule_of B s) S) (statements B) r.statement (obeys_every S (rule_of B) (statements B) obeys.0) in
      let x = every_some (λ s. Obeys (rule_of B s) S) (by_axiom B r.rule P f) (member (statements B) r.statement) m e in
      yields_in (use_of B x.0) P S (use_obeys B S x.0 x.1) within f (and_both (eqb (rule_number_lem x.0) r.rule) (yields (use_of B x.0) P f) x.2).1

  sharing_right : (f : ℕ) → by_sharing_lem B r P f ≡ true → S f ≡ true
  unfolding by_sharing_lem
  sharing_right f e =
      let a = and_both (eqb r.rule 6) (eqb r.statement none && yields (sharing_both B) P f) e in
      yields_in (sharing_both B) P S (sharing_both_lem B inside S obeys) within f (and_both (eqb r.statement none) (yields (sharing_both B) P f) a.1).1

  clash_right : by_clash_lem B r P ≡ true → clashes B S ≡ true
  unfolding by_clash_lem clashes
  clash_right e =
      ⊎_elim (λ a. or_left (by_types B S) (some (denied B) S) (types_up B P S within a)) (λ a. or_right (by_types B S) (some (denied B) S) (denies_in B inside S obeys P within a))
      (or_cases (by_types B P) (denies B P) (and_both (eqb r.statement none || ltb r.statement (length (statements B))) (by_types B P || denies B P) (and_both (eqb r.rule 8) _ e).1).1)

  pub follows_right : (c : Claim) → follows B r P c ≡ true → Right B S c
  follows_right (fact f) e = ⊎_elim (statement_right f) (sharing_right f) (or_cases (by_statement_lem B r P f) (by_sharing_lem B r P f) e)
  follows_right clash e = clash_right e
  follows_right nothing e = false_true e

says_in : (B : Book) (S : Set) (c : Claim) → Right B S c → In (says c) S
says_in B S (fact g) h f e = subst (λ (x : ℕ). S x ≡ true) (sym (eqb-true f g e)) h
says_in B S clash h f e = false_true e
says_in B S nothing h f e = false_true e

module _ (B : Book) (inside : Inside B) (S : Set) (obeys : Obeys (rules B) S) (l : List ℕ) where
  -- the rows that a row names
  module _ (k : ℕ) (right : (j : ℕ) → j < k → Right B S (claim_at B l j)) where
    row_in : (x : ℕ) → before k x ≡ true → In (says (says_row B.counts l x)) S
    row_in x = go (eqb x none)
      where
        go : (b : Bool) → (b || ltb x k) ≡ true → In (says (pick b nothing (claim_at B l x))) S
        go true e = λ f h. false_true h
        go false e = says_in B S (claim_at B l x) (right x (ltb-true x k e))

    pub named_in : (r : Row) → earlier k r ≡ true → In (named B.counts l r) S
    unfolding earlier named
    named_in r e f h =
        let a = and_both (before k r.first) _ e in
        let b = and_both (before k r.second) (before k r.third) a.1 in
        ⊎_elim (row_in r.first a.0 f) (λ q. ⊎_elim (row_in r.second b.0 f) (row_in r.third b.1 f) (or_cases (says (says_row B.counts l r.second) f) _ q)) (or_cases (says (says_row B.counts l r.first) f) _ h)

    accepts_right : accepts B l k ≡ true → Right B S (claim_at B l k)
    unfolding accepts
    accepts_right e =
        let a = and_both (earlier k (row_at l k)) _ e in
        follows_right B inside (named B.counts l (row_at l k)) S obeys (named_in (row_at l k) a.0) (row_at l k) (claim_at B l k) a.1

  -- rows that are accepted, each where those before it are
  pub rows_right : (m : ℕ) → ((k : ℕ) → k < m → accepts B l k ≡ true) → (k : ℕ) → k < m → Right B S (claim_at B l k)
  rows_right zero h k q = absurd (omega arith)
  rows_right (suc m) h k q = go (ℕ_discrete k m) (rows_right m (λ j i. h j (omega arith)))
    where
      go : Dec (k ≡ m) → ((j : ℕ) → j < m → Right B S (claim_at B l j)) → Right B S (claim_at B l k)
      go (yes e) rest = subst (λ (x : ℕ). Right B S (claim_at B l x)) (sym e) (accepts_right m rest (h m (omega arith)))
      go (no e) rest = rest k (omega arith)

-- rows that stand are accepted
pub standing_accepted : (B : Book) (l : List ℕ) (n k : ℕ) → k < standing B l n → accepts B l k ≡ true
unfolding standing
standing_accepted B l zero k h = absurd (omega arith)
standing_accepted B l (suc n) k h = go (eqb (standing B l n) n) (accepts B l n) refl refl h (standing_accepted B l n k)
  where
    go : (a b : Bool) → eqb (standing B l n) n ≡ a → accepts B l n ≡ b → k < pick (a && b) (suc n) (standing B l n) → (k < standing B l n → accepts B l k ≡ true) → accepts B l k ≡ true
    go true true e f q r = last (ℕ_discrete k n)
      where
        last : Dec (k ≡ n) → accepts B l k ≡ true
        last (yes i) = subst (λ (x : ℕ). accepts B l x ≡ true) (sym i) f
        last (no i) = let z : standing B l n ≡ n = eqb-true (standing B l n) n e in r (omega arith)
    go true false e f q r = r q
    go false b e f q r = r q

-- a joining row that is right: two of the book's individuals, the lower number first, and their pair
pub record Joined (B : Book) (S : Set) (i j : ℕ) : Type 0 where
  pub order : ltb i j ≡ true
  pub low : j < B.counts.individuals
  pub pairs : S (pair i j) ≡ true

joining_right : (B : Book) (S : Set) (r : Row) → r.kind ≡ 3 → Right B S (claim B.counts r) → Joined B S r.one r.two
unfolding claim
joining_right B S r e =
    rw e λ x. go (ltb r.one r.two) (ltb r.two B.counts.individuals) (eqb r.three none) refl refl x
  where
    go : (a b c : Bool) → ltb r.one r.two ≡ a → ltb r.two B.counts.individuals ≡ b
        → Right B S (pick (a && (b && c)) (fact (pair r.one r.two)) nothing) → Joined B S r.one r.two
    go true true true p q x = record { order = p; low = ltb-true r.two _ q; pairs = x }
    go true true false p q x = absurd x
    go true false c p q x = absurd x
    go false b c p q x = absurd x

module _ (s : List ℕ) (B : Book) (book : decode s ≡ accepted B) (l : List ℕ) where
  -- THE theorem of the checker
  pub stands_right : (k : ℕ) → k < stands B l → Right B (conclusions B) (claim_at B l k)
  unfolding stands
  stands_right = rows_right B (accepted_inside s B book) (conclusions B) (conclusions_obey B (accepted_inside s B book)) l _ (standing_accepted B l _)

  -- so what it accepts is true in every world that fits
  pub stands_true : (W : World) → Fits W B → (k f : ℕ) → k < stands B l → claim_at B l k ≡ fact f → truth W f ≡ true
  stands_true W fits k f h e = conclusions_true W B (accepted_inside s B book) fits f (subst (Right B (conclusions B)) e (stands_right k h))

  -- a joining row that stands is a same pair, and two names of one thing in every world that fits
  stands_joined : (k : ℕ) → k < stands B l → (row_at l k).kind ≡ 3 → Joined B (conclusions B) (row_at l k).one (row_at l k).two
  stands_joined k h e = joining_right B (conclusions B) (row_at l k) e (stands_right k h)

  pub stands_same : (k : ℕ) → k < stands B l → (row_at l k).kind ≡ 3 → same_pair (conclusions B) (row_at l k).one (row_at l k).two ≡ true
  unfolding same_pair
  stands_same k h e = let j = stands_joined k h e in and_intro _ _ j.order j.pairs

  pub stands_equal : (W : World) → Fits W B → (k : ℕ) → k < stands B l → (row_at l k).kind ≡ 3 → W.ind (row_at l k).one ≡ W.ind (row_at l k).two
  stands_equal W fits k h e =
      let j = stands_joined k h e in
      let inside = accepted_inside s B book in
      to_pair W B inside (row_at l k).one (row_at l k).two j.low (conclusions_true W B inside fits (pair (row_at l k).one (row_at l k).two) j.pairs)
