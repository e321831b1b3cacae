-- A statement that denies what is known, or a fact that a row names, denies one of the three.
use Prim.Native.Nat.{ℕ, ◌<◌}
use native.Mathlib.Omega.{arith}
use mathlib.Core.Path.{◌≡◌, refl, ap, ap₂, sym, ◌∙◌, subst}
use mathlib.Core.Bool.{Bool, true, false, not, ◌&&◌, ◌||◌}
use mathlib.Core.List.{List, [], ◌∷◌}
use mathlib.Core.Logic.{⊎_elim}
use lib.Dec.{eqb, ltb}
use borrow.Author.Tests.{eqb-true, eq-eqb}
use Rattle.book.specs.Header.{Limits}
use Rattle.book.specs.Book.{Book}
use Rattle.book.specs.declared.header.Counts.{Counts}
use Rattle.book.specs.Within.{Every, Within}
use Rattle.book.specs.declared.statement.Axiom.{Axiom}
use Rattle.book.specs.declared.statement.Axiom.TheVariants.{SubClassOf, EquivalentClasses, DisjointClasses, InverseObjectProperties, SubObjectPropertyOf, TransitiveRole, SymmetricRole, FunctionalRole, InverseFunctionalRole, ObjectPropertyDomain, ObjectPropertyRange, SameIndividual, ClassAssertion, ObjectPropertyAssertion, DifferentIndividuals, NegativeObjectPropertyAssertion}
use Rattle.rules.specs.Fact.{edge, pair}
use Rattle.rules.specs.Rule.{Set, some}
use Rattle.rules.specs.ToldSame.{same}
use Rattle.rules.proofs.Tests.{false_true, both_ways, or_cases, or_left, or_right}
use Rattle.rules.proofs.Facts.{edge_lt, pair_lt}
use Rattle.derivation.specs.Rows.{none, Claim, one_of, fact_in}
use Rattle.derivation.specs.Accept.{denies_one}
use Rattle.derivation.specs.declared.row.Row.{Row}
use Rattle.derivation.specs.declared.row.Premises.{Premises}
use Rattle.derivation.specs.Judging.{denial_fits, clash_fits_row}
use Rattle.derivation.specs.Fits.{joins, changes, deny_fits, clash_fits_lem, one_of_three, any_two}
use Rattle.derivation.proofs.Judging.{Low, slot_three, three_slot, taken, named}

module _ (a b c : Claim) (la : Low a) (lb : Low b) (lc : Low c) where
  abbrev three : (ℕ → Bool) → Bool
  three = one_of_three (fact_in a) (fact_in b) (fact_in c)

  abbrev P : Set
  P = one_of a b c

  among : (test : ℕ → Bool) (f : ℕ) → P f ≡ true → test f ≡ true → three test ≡ true
  among test f e = slot_three (fact_in a) (fact_in b) (fact_in c) test f (taken a b c la lb lc f e).1

  -- a fact is named exactly where one of the three is it
  one_named : (f : ℕ) → f < none → P f ≡ three (λ g. eqb g f)
  one_named f l = both_ways _ _ (λ e. among (λ g. eqb g f) f e (eq-eqb f f refl)) back
    where
      back : three (λ g. eqb g f) ≡ true → P f ≡ true
      back e =
          let w = three_slot (fact_in a) (fact_in b) (fact_in c) (λ g. eqb g f) e in
          let q = eqb-true w.0 f w.2 in
          subst (λ (x : ℕ). P x ≡ true) q (named a b c la lb lc w.0 w.1 (omega arith))

  module _ (B : Book) (top : Limits B.counts) where
    pair_into : (i j : ℕ) → (same B i j || (P (pair i j) || P (pair j i))) ≡ true → three (changes B i j) ≡ true
    unfolding changes
    pair_into i j e =
        ⊎_elim
        (λ q. or_left (changes B i j (fact_in a)) _ (or_left (same B i j) _ q))
        (λ r. ⊎_elim
        (λ q. among (changes B i j) (pair i j) q (or_right (same B i j) _ (or_left (eqb (pair i j) (pair i j)) _ (eq-eqb (pair i j) (pair i j) refl))))
        (λ q. among (changes B i j) (pair j i) q (or_right (same B i j) _ (or_right (eqb (pair j i) (pair i j)) _ (eq-eqb (pair j i) (pair j i) refl))))
        (or_cases (P (pair i j)) (P (pair j i)) r))
        (or_cases (same B i j) (P (pair i j) || P (pair j i)) e)

    pair_back : (i j : ℕ) → i < B.counts.individuals → j < B.counts.individuals → three (changes B i j) ≡ true → (same B i j || (P (pair i j) || P (pair j i))) ≡ true
    unfolding changes
    pair_back i j li lj e =
        let w = three_slot (fact_in a) (fact_in b) (fact_in c) (changes B i j) e in
        let it : (f : ℕ) → f < none → eqb w.0 f ≡ true → P f ≡ true = λ f l z. let q = eqb-true w.0 f z in subst (λ (x : ℕ). P x ≡ true) q (named a b c la lb lc w.0 w.1 (omega arith)) in
        let x = pair_lt i j (omega (arith, top.individuals_top)) (omega (arith, top.individuals_top)) in
        let y = pair_lt j i (omega (arith, top.individuals_top)) (omega (arith, top.individuals_top)) in
        ⊎_elim
        (λ q. or_left (same B i j) _ q)
        (λ r. or_right (same B i j) _ (⊎_elim (λ q. or_left (P (pair i j)) _ (it (pair i j) (omega arith) q)) (λ q. or_right (P (pair i j)) _ (it (pair j i) (omega arith) q)) (or_cases (eqb w.0 (pair i j)) (eqb w.0 (pair j i)) r)))
        (or_cases (same B i j) (joins i j w.0) w.2)

    deny_tried : (x : Axiom) → Within B.counts x → denies_one B P x ≡ three (deny_fits B x)
    deny_tried (SubClassOf c d) w = refl
    deny_tried (EquivalentClasses c d) w = refl
    deny_tried (DisjointClasses c d) w = refl
    deny_tried (InverseObjectProperties r s) w = refl
    deny_tried (SubObjectPropertyOf p t) w = refl
    deny_tried (TransitiveRole r) w = refl
    deny_tried (SymmetricRole r) w = refl
    deny_tried (FunctionalRole r) w = refl
    deny_tried (InverseFunctionalRole r) w = refl
    deny_tried (ObjectPropertyDomain r c) w = refl
    deny_tried (ObjectPropertyRange r c) w = refl
    deny_tried (SameIndividual a b) w = refl
    deny_tried (ClassAssertion c i) w = refl
    deny_tried (ObjectPropertyAssertion r a b) w = refl
    deny_tried (DifferentIndividuals i j) w = both_ways _ _ (pair_into i j) (pair_back i j w.0 w.1)
    deny_tried (NegativeObjectPropertyAssertion r i j) w =
        let l = edge_lt r i j (omega (arith, top.roles_top, w.0)) (omega (arith, top.individuals_top, w.1)) (omega (arith, top.individuals_top, w.2)) in
        one_named (edge r i j) (omega arith)

    pub denial_tried : (l : List Axiom) → Every (Within B.counts) l → some l (denies_one B P) ≡ some l (λ x. three (deny_fits B x))
    denial_tried [] w = refl
    denial_tried (x ∷ l) w = ap₂ ◌||◌ (deny_tried x w.0) (denial_tried l w.1)

-- the answers about a row of rule 8
module _ (h : Counts) (B : Book) (r : Row) (p : Premises) where
  abbrev known : Bool
  known = eqb r.statement none || ltb r.statement h.statements

  pub row_other : not (eqb r.rule 8 && known) ≡ true → false ≡ clash_fits_row h B r p
  unfolding clash_fits_row
  row_other = go (eqb r.rule 8) known
    where
      go : (a b : Bool) → not (a && b) ≡ true → false ≡ (a && (b && (any_two p.one p.two p.three (clash_fits_lem h B) || denial_fits B p)))
      go true true e = false_true e
      go true false e = refl
      go false b e = refl

  -- where it is one
  module _ {x : Bool} (its : not (eqb r.rule 8 && known) ≡ false) (e : x ≡ any_two p.one p.two p.three (clash_fits_lem h B)) where
    tried : (any_two p.one p.two p.three (clash_fits_lem h B) || denial_fits B p) ≡ clash_fits_row h B r p
    unfolding clash_fits_row
    tried = go (eqb r.rule 8) known its
      where
        go : (a b : Bool) {y : Bool} → not (a && b) ≡ false → y ≡ (a && (b && y))
        go true true i = refl
        go true false i = false_true (sym i)
        go false b i = false_true (sym i)

    pub row_types : x ≡ true → true ≡ clash_fits_row h B r p
    row_types i = sym (or_left (any_two p.one p.two p.three (clash_fits_lem h B)) (denial_fits B p) (sym e ∙ i)) ∙ tried

    pub row_denied : {y : Bool} → x ≡ false → y ≡ denial_fits B p → y ≡ clash_fits_row h B r p
    row_denied i q = q ∙ (ap (λ (z : Bool). z || denial_fits B p) (sym i ∙ e) ∙ tried)
