-- Types that clash among the facts that a row names are two of them.
use Prim.Native.Nat.{ℕ, ◌<◌}
use native.Mathlib.Omega.{arith}
use mathlib.Core.Path.{◌≡◌, refl, ap, ◌∙◌, subst}
use mathlib.Core.Bool.{Bool, true, not, ◌&&◌, ◌||◌}
use mathlib.Core.Logic.{⊎_elim}
use lib.Dec.{eqb, ltb}
use borrow.Author.Tests.{eqb-true, eq-eqb, ltb-true, lt-ltb}
use Rattle.book.specs.Header.{Limits}
use Rattle.book.specs.Book.{Book}
use Rattle.book.specs.Within.{Every}
use Rattle.book.specs.declared.role.Role.{Role}
use Rattle.book.specs.declared.role.Role.TheVariants.{Named, Inverse}
use Rattle.rules.specs.Fact.{type, Two as Pair}
use Rattle.rules.specs.Rule.{Set, some}
use Rattle.rules.specs.Same.{functional}
use Rattle.rules.specs.Clash.{disjoint, Mark, marks, marked, type_clash, both_marked, marker_clash, by_types}
use Rattle.rules.proofs.Tests.{false_true, both_ways, or_cases, or_left, or_right, and_both, and_intro, any_some, some_any, every_all}
use Rattle.tables.proofs.Members.{Member, member, some_map}
use Rattle.tables.proofs.Sides.{PairLow}
use Rattle.derivation.specs.Rows.{none, Claim, one_of, fact_in}
use Rattle.derivation.specs.Fits.{bearer, class_in_lem, brings_mark, both_bring, pair_clash, clash_fits_lem, one_of_three, any_two}
use Rattle.derivation.proofs.Fitting.{type_bearer, type_class, type_low}
use Rattle.derivation.proofs.Judging.{Low, slot_three, three_slot, taken, named}

module _ (B : Book) (top : Limits B.counts) (pairs_low : Every (PairLow B.counts) (disjoint B)) (marks_low : Every (λ (m : Mark). m.left < B.counts.classes) (marks B)) where
  -- ---- two types of one individual whose classes clash

  pair_types : (a b : ℕ) (p : Pair) → eqb p.one a ≡ true → eqb p.other b ≡ true → ((g : Pair → Bool) → g p ≡ true → some (disjoint B) g ≡ true) → pair_clash B a b ≡ true
  unfolding pair_clash
  pair_types a b p i j among = among _ (or_left (eqb p.one a && eqb p.other b) _ (and_intro (eqb p.one a) _ i j))

  pair_marks : (a b : ℕ) (p : Pair) (r : Role) → not (eqb p.one p.other) ≡ true → both_bring B a b p r ≡ true
      → ((g : Role → Bool) → g r ≡ true → some (functional B) g ≡ true) → ((g : Pair → Bool) → g p ≡ true → some (disjoint B) g ≡ true) → pair_clash B a b ≡ true
  unfolding pair_clash
  pair_marks a b p r i j fun among = among _ (or_right (eqb p.one a && eqb p.other b) _ (and_intro (not (eqb p.one p.other)) _ i (fun (both_bring B a b p) j)))

  abbrev pair_test : ℕ → ℕ → Pair → Bool
  pair_test a b p = (eqb p.one a && eqb p.other b) || (not (eqb p.one p.other) && some (functional B) (both_bring B a b p))

  -- a set clashes if two of its types do
  module _ (P : Set) where
    marked_by : (x a r c : ℕ) → P (type x a) ≡ true → brings_mark B a r c ≡ true → marked B P x r c ≡ true
    unfolding marked
    marked_by x a r c e =
        some_map _ _ (λ (m : Mark) i. let b = and_both (eqb m.left a) (eqb m.role r && eqb m.class c) i in and_intro (P (type x m.left)) _ (ap (λ (y : ℕ). P (type x y)) (eqb-true m.left a b.0) ∙ e) b.1) (marks B)

    pub types_clash : (x a b : ℕ) → x < B.counts.individuals → P (type x a) ≡ true → P (type x b) ≡ true → pair_clash B a b ≡ true → by_types B P ≡ true
    unfolding pair_clash type_clash marker_clash
    types_clash x a b l e f w =
        some_any B.counts.individuals (λ x. type_clash B P x || marker_clash B P x) x l
        (⊎_elim told marking (or_cases (eqb m.it.one a && eqb m.it.other b) _ m.passes))
      where
        m : Member (PairLow B.counts) (pair_test a b) (disjoint B)
        m = member (PairLow B.counts) (pair_test a b) (disjoint B) pairs_low w

        told : (eqb m.it.one a && eqb m.it.other b) ≡ true → (type_clash B P x || marker_clash B P x) ≡ true
        told i =
            let c = and_both (eqb m.it.one a) (eqb m.it.other b) i in
            or_left (type_clash B P x) _ (m.among (λ p. P (type x p.one) && P (type x p.other))
            (and_intro (P (type x m.it.one)) _ (ap (λ (y : ℕ). P (type x y)) (eqb-true m.it.one a c.0) ∙ e) (ap (λ (y : ℕ). P (type x y)) (eqb-true m.it.other b c.1) ∙ f)))

        both : (r : Role) → both_bring B a b m.it r ≡ true → both_marked B P x m.it r ≡ true
        both (Named r) i = let c = and_both (brings_mark B a r m.it.one) (brings_mark B b r m.it.other) i in and_intro (marked B P x r m.it.one) _ (marked_by x a r m.it.one e c.0) (marked_by x b r m.it.other f c.1)
        both (Inverse r) i = false_true i

        marking : (not (eqb m.it.one m.it.other) && some (functional B) (both_bring B a b m.it)) ≡ true → (type_clash B P x || marker_clash B P x) ≡ true
        marking i =
            let c = and_both (not (eqb m.it.one m.it.other)) _ i in
            or_right (type_clash B P x) _ (m.among (λ p. not (eqb p.one p.other) && some (functional B) (both_marked B P x p))
            (and_intro (not (eqb m.it.one m.it.other)) _ c.0 (some_map _ _ both (functional B) c.1)))

    -- and of a set that clashes two types do
    pub record Clashing : Type 0 where
      pub at : ℕ
      pub one : ℕ
      pub other : ℕ
      pub at_low : at < B.counts.individuals
      pub one_low : one < B.counts.classes
      pub other_low : other < B.counts.classes
      pub has_one : P (type at one) ≡ true
      pub has_other : P (type at other) ≡ true
      pub clash : pair_clash B one other ≡ true

    type_clashing : (x : ℕ) → x < B.counts.individuals → type_clash B P x ≡ true → Clashing
    unfolding type_clash
    type_clashing x l e =
        let m : Member (PairLow B.counts) (λ p. P (type x p.one) && P (type x p.other)) (disjoint B) = member (PairLow B.counts) (λ p. P (type x p.one) && P (type x p.other)) (disjoint B) pairs_low e in
        let c = and_both (P (type x m.it.one)) (P (type x m.it.other)) m.passes in
        record {
          at = x;
          one = m.it.one;
          other = m.it.other;
          at_low = l;
          one_low = m.holds.0;
          other_low = m.holds.1;
          has_one = c.0;
          has_other = c.1;
          clash = pair_types m.it.one m.it.other m.it (eq-eqb m.it.one m.it.one refl) (eq-eqb m.it.other m.it.other refl) m.among;
        }

    -- a mark of x
    abbrev of_mark : ℕ → ℕ → ℕ → Mark → Bool
    of_mark x r c m = P (type x m.left) && (eqb m.role r && eqb m.class c)

    mark_of : (x r c : ℕ) → marked B P x r c ≡ true → Member (λ (m : Mark). m.left < B.counts.classes) (of_mark x r c) (marks B)
    unfolding marked
    mark_of x r c e = member (λ (m : Mark). m.left < B.counts.classes) (of_mark x r c) (marks B) marks_low e

    mark_brings : (x r c : ℕ) (w : Member (λ (m : Mark). m.left < B.counts.classes) (of_mark x r c) (marks B)) → brings_mark B w.it.left r c ≡ true
    mark_brings x r c w = w.among (λ m. eqb m.left w.it.left && (eqb m.role r && eqb m.class c)) (and_intro (eqb w.it.left w.it.left) _ (eq-eqb w.it.left w.it.left refl) (and_both (P (type x w.it.left)) _ w.passes).1)

    abbrev mark_test : ℕ → Pair → Bool
    mark_test x p = not (eqb p.one p.other) && some (functional B) (both_marked B P x p)

    marker_clashing : (x : ℕ) → x < B.counts.individuals → marker_clash B P x ≡ true → Clashing
    unfolding marker_clash
    marker_clashing x l e = go m.it m.among c.0 f.it f.passes f.among
      where
        m : Member (PairLow B.counts) (mark_test x) (disjoint B)
        m = member (PairLow B.counts) (mark_test x) (disjoint B) pairs_low e

        c : (not (eqb m.it.one m.it.other) ≡ true) × (some (functional B) (both_marked B P x m.it) ≡ true)
        c = and_both (not (eqb m.it.one m.it.other)) _ m.passes

        f : Member (λ r. Unit {0}) (both_marked B P x m.it) (functional B)
        f = member (λ r. Unit {0}) (both_marked B P x m.it) (functional B) (every_all (λ r. Unit {0}) (λ r. tt) (functional B)) c.1

        go : (p : Pair) → ((g : Pair → Bool) → g p ≡ true → some (disjoint B) g ≡ true) → not (eqb p.one p.other) ≡ true → (r : Role) → both_marked B P x p r ≡ true → ((g : Role → Bool) → g r ≡ true → some (functional B) g ≡ true) → Clashing
        go p among differ (Named r) i fun =
            let d = and_both (marked B P x r p.one) (marked B P x r p.other) i in
            let v = mark_of x r p.one d.0 in
            let w = mark_of x r p.other d.1 in
            record {
              at = x;
              one = v.it.left;
              other = w.it.left;
              at_low = l;
              one_low = v.holds;
              other_low = w.holds;
              has_one = (and_both (P (type x v.it.left)) _ v.passes).0;
              has_other = (and_both (P (type x w.it.left)) _ w.passes).0;
              clash = pair_marks v.it.left w.it.left p (Named r) differ (and_intro (brings_mark B v.it.left r p.one) _ (mark_brings x r p.one v) (mark_brings x r p.other w)) fun among;
            }
        go p among differ (Inverse r) i fun = false_true i

    pub clashing : by_types B P ≡ true → Clashing
    clashing e =
        let x = any_some B.counts.individuals (λ x. type_clash B P x || marker_clash B P x) e in
        ⊎_elim (type_clashing x.0 x.1) (marker_clashing x.0 x.1) (or_cases (type_clash B P x.0) _ x.2)

  -- ---- by numbers

  types_fit : (g h x a b : ℕ) → x < B.counts.individuals → a < B.counts.classes → b < B.counts.classes → g ≡ type x a → h ≡ type x b → pair_clash B a b ≡ true → clash_fits_lem B.counts B g h ≡ true
  unfolding clash_fits_lem
  types_fit g h x a b l m o q r w =
      let top-i = top.individuals_top in
      let top-c = top.classes_top in
      let i : bearer g ≡ x = ap bearer q ∙ type_bearer x a (omega arith) (omega arith) in
      let j : class_in_lem g ≡ a = ap class_in_lem q ∙ type_class x a (omega arith) in
      let k : class_in_lem h ≡ b = ap class_in_lem r ∙ type_class x b (omega arith) in
      rw (i, j, k) (and_intro _ _ (lt-ltb x _ l) (and_intro _ _ (lt-ltb a _ m) (and_intro _ _ (lt-ltb b _ o) (and_intro _ _ (eq-eqb g (type x a) q) (and_intro _ _ (eq-eqb h (type x b) r) w)))))

  record Fit (g h : ℕ) : Type 0 where
    at_low : bearer g < B.counts.individuals
    is_one : g ≡ type (bearer g) (class_in_lem g)
    is_other_lem : h ≡ type (bearer g) (class_in_lem h)
    one_under : g < none
    other_under : h < none
    clash : pair_clash B (class_in_lem g) (class_in_lem h) ≡ true

  fit_types : (g h : ℕ) → clash_fits_lem B.counts B g h ≡ true → Fit g h
  unfolding clash_fits_lem
  fit_types g h e =
      let a = and_both (ltb (bearer g) B.counts.individuals) _ e in
      let b = and_both (ltb (class_in_lem g) B.counts.classes) _ a.1 in
      let c = and_both (ltb (class_in_lem h) B.counts.classes) _ b.1 in
      let d = and_both (eqb g (type (bearer g) (class_in_lem g))) _ c.1 in
      let f = and_both (eqb h (type (bearer g) (class_in_lem h))) _ d.1 in
      let i = ltb-true (bearer g) B.counts.individuals a.0 in
      let j = ltb-true (class_in_lem g) B.counts.classes b.0 in
      let k = ltb-true (class_in_lem h) B.counts.classes c.0 in
      let q = eqb-true g _ d.0 in
      let r = eqb-true h _ f.0 in
      let x = type_low (bearer g) (class_in_lem g) (omega (arith, top.individuals_top)) (omega (arith, top.classes_top)) in
      let y = type_low (bearer g) (class_in_lem h) (omega (arith, top.individuals_top)) (omega (arith, top.classes_top)) in
      record { at_low = i; is_one = q; is_other_lem = r; one_under = omega arith; other_under = omega arith; clash = f.1 }

  module _ (a b c : Claim) (la : Low a) (lb : Low b) (lc : Low c) where
    abbrev pair_two : ℕ → Bool
    pair_two g = one_of_three (fact_in a) (fact_in b) (fact_in c) λ h. clash_fits_lem B.counts B g h

    pub clash_tried : by_types B (one_of a b c) ≡ any_two (fact_in a) (fact_in b) (fact_in c) (clash_fits_lem B.counts B)
    clash_tried = both_ways _ _ into back
      where
        into : by_types B (one_of a b c) ≡ true → any_two (fact_in a) (fact_in b) (fact_in c) (clash_fits_lem B.counts B) ≡ true
        into e =
            let w = clashing (one_of a b c) e in
            slot_three (fact_in a) (fact_in b) (fact_in c) pair_two (type w.at w.one) (taken a b c la lb lc (type w.at w.one) w.has_one).1
            (slot_three (fact_in a) (fact_in b) (fact_in c) (clash_fits_lem B.counts B (type w.at w.one)) (type w.at w.other) (taken a b c la lb lc (type w.at w.other) w.has_other).1
            (types_fit (type w.at w.one) (type w.at w.other) w.at w.one w.other w.at_low w.one_low w.other_low refl refl w.clash))

        back : any_two (fact_in a) (fact_in b) (fact_in c) (clash_fits_lem B.counts B) ≡ true → by_types B (one_of a b c) ≡ true
        back e =
            let g = three_slot (fact_in a) (fact_in b) (fact_in c) pair_two e in
            let h = three_slot (fact_in a) (fact_in b) (fact_in c) (clash_fits_lem B.counts B g.0) g.2 in
            let w = fit_types g.0 h.0 h.2 in
            types_clash (one_of a b c) (bearer g.0) (class_in_lem g.0) (class_in_lem h.0) w.at_low
            (subst (λ (x : ℕ). one_of a b c x ≡ true) w.is_one (named a b c la lb lc g.0 g.1 w.one_under))
            (subst (λ (x : ℕ). one_of a b c x ≡ true) w.is_other_lem (named a b c la lb lc h.0 h.1 w.other_under))
            w.clash
