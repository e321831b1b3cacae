-- The pairs that are found are those that clash.
use Prim.Native.Nat.{ℕ, ◌+◌, ◌*◌, ◌/◌, ◌%◌, ◌<◌}
use native.Mathlib.Omega.{arith}
use mathlib.Core.Path.{◌≡◌, refl, ap, sym, ◌∙◌}
use mathlib.Core.Bool.{Bool, true, false, not, ◌&&◌, ◌||◌, or-false}
use mathlib.Core.List.{List, [], ◌∷◌}
use mathlib.Core.Logic.{⊎_elim}
use lib.ListN.{get_or}
use lib.Dec.{eqb}
use borrow.Author.Tests.{eqb-true, eq-eqb}
use Rattle.book.specs.Read.{pick}
use Rattle.book.specs.Role.{field_of_lem}
use Rattle.book.specs.Book.{Book}
use Rattle.book.specs.Within.{RoleWithin}
use Rattle.book.specs.declared.header.Counts.{Counts}
use Rattle.book.specs.declared.role.Role.{Role}
use Rattle.book.specs.declared.role.Role.TheVariants.{Named, Inverse}
use Rattle.rows.specs.Row.{has}
use Rattle.rules.specs.Fact.{Two as Pair, two}
use Rattle.rules.specs.Rule.{any, some}
use Rattle.rules.specs.Brought.{concept, from, Marker}
use Rattle.rules.specs.Same.{functional_by, functional}
use Rattle.rules.specs.Clash.{disjoint_by, disjoint}
use Rattle.rules.proofs.Tests.{false_true, both_ways, or_cases, or_left, or_right, and_both, and_intro, any_some, some_any}
use Rattle.tables.specs.Leaf.{kind_in, marker_in, Leaves}
use Rattle.tables.specs.Open.{book_of, Open}
use Rattle.tables.specs.Tables.{Pairs, Takers, lists, takers_by, functionals_by}
use Rattle.tables.proofs.Open.{open_limits, open_within}
use Rattle.tables.proofs.Members.{any_same, Member, member, some_same, some_map, some_from, some_each, listed_some}
use Rattle.tables.proofs.Sides.{sides_by, is_marker_lem, marks_as, and_unmarked, markers_some, marks_sides, PairLow, disjoint_low, functional_low}
use Rattle.tables.proofs.Takers.{brought_class}
use Rattle.derivation.specs.Accept.{statements}
use Rattle.derivation.specs.Fits.{brings_mark, both_bring, pair_clash}
use Rattle.derivation.specs.Pairs.{marks_clash_lem, brings_clash, Paired}

module _ {s O : List ℕ} (L T J F : List ℕ) {h : Counts} (o : Open s h O) (known : Leaves h (book_of s) h.concepts L)
    (takers : Takers s h T (from (statements (book_of s)) (takers_by (book_of s)))) (dis : Pairs J (from (statements (book_of s)) (disjoint_by (book_of s)))) (fun : Pairs F (from (statements (book_of s)) functionals_by)) where
  abbrev B : Book
  B = book_of s

  abbrev RoleLow : Role → Type 0
  RoleLow = RoleWithin h

  -- whether a leaf is the marker (r, c)
  abbrev marker_at : ℕ → ℕ → ℕ → Bool
  marker_at r c k = some (marker_in (get_or L k 0)) (is_marker_lem r c)

  brings_mark_lem : (r a c : ℕ) → a < h.classes → any h.concepts (λ k. has T k a && marker_at r c k) ≡ brings_mark B a r c
  brings_mark_lem r a c l =
      any_same h.concepts _ _ (λ k m. ap (λ (ks : List Marker). has T k a && some ks (is_marker_lem r c)) (sym (known.leaf k m).markers))
      ∙ (brought_class o (book_of s).statements T (statements B) (open_within o) takers a l (marks_as r c) (and_unmarked r c)
      ∙ (some_same _ _ (λ p. ap (λ (b : Bool). eqb p.one a && b) (markers_some (is_marker_lem r c) (concept B p.other))) (from (statements B) (sides_by B))
      ∙ sym (marks_sides B (λ x. eqb x a) (is_marker_lem r c))))

  functional_has : (r : ℕ) → r < h.roles → has F 0 (2 * r) ≡ some (functional B) (λ q. eqb 0 0 && eqb (field_of_lem q) (2 * r))
  functional_has r l =
      fun 0 (2 * r) (omega (arith, (open_limits o).roles_top))
      ∙ (some_from _ functionals_by (statements B)
      ∙ (some_same _ _ (λ x. some_each _ (λ q. two 0 (field_of_lem q)) (functional_by x)) (statements B)
      ∙ sym (some_from _ functional_by (statements B))))

  disjoint_has : (a b : ℕ) → b < 512 → has J a b ≡ lists (disjoint B) a b
  disjoint_has a b l = dis a b l

  -- ---- markers by number

  record IsMarker (x r c : ℕ) : Type 0 where
    kind : kind_in x ≡ 5
    role : x % 1048576 / 256 ≡ r
    class : x % 256 ≡ c

  marker_is : (x r c : ℕ) → some (marker_in x) (is_marker_lem r c) ≡ true → IsMarker x r c
  marker_is x r c = go (eqb (kind_in x) 5) refl
    where
      go : (b : Bool) → eqb (kind_in x) 5 ≡ b → some (pick b (record { role = x % 1048576 / 256; class = x % 256 } ∷ []) []) (is_marker_lem r c) ≡ true → IsMarker x r c
      go true q e =
          let w = and_both (eqb (x % 1048576 / 256) r) (eqb (x % 256) c) (sym (or-false (eqb (x % 1048576 / 256) r && eqb (x % 256) c)) ∙ e) in
          record { kind = eqb-true (kind_in x) 5 q; role = eqb-true (x % 1048576 / 256) r w.0; class = eqb-true (x % 256) c w.1 }
      go false q e = false_true e

  is_marker_law : (x r c : ℕ) → IsMarker x r c → some (marker_in x) (is_marker_lem r c) ≡ true
  is_marker_law x r c w =
      rw (eq-eqb (kind_in x) 5 w.kind) (or_left (eqb (x % 1048576 / 256) r && eqb (x % 256) c) false (and_intro _ _ (eq-eqb (x % 1048576 / 256) r w.role) (eq-eqb (x % 256) c w.class)))

  record Clash (a b : ℕ) : Type 0 where
    role : ℕ
    one : ℕ
    other : ℕ
    role_low : role < h.roles
    other_low : other < 512
    differ : not (eqb one other) ≡ true
    under : has F 0 (2 * role) ≡ true
    apart : has J one other ≡ true
    left : brings_mark B a role one ≡ true
    right : brings_mark B b role other ≡ true

  -- what the tables show
  shown : (a b : ℕ) → a < h.classes → b < h.classes → any h.concepts (λ k. brings_clash F J T L h.concepts k a b) ≡ true → Clash a b
  unfolding marks_clash_lem
  shown a b la lb e =
      let k = any_some h.concepts (λ k. brings_clash F J T L h.concepts k a b) e in
      let p = and_both (has T k.0 a) _ k.2 in
      let j = any_some h.concepts (λ j. marks_clash_lem F J (get_or L k.0 0) (get_or L j 0) && has T j b) p.1 in
      let q = and_both (marks_clash_lem F J (get_or L k.0 0) (get_or L j.0 0)) (has T j.0 b) j.2 in
      let x = get_or L k.0 0 in
      let y = get_or L j.0 0 in
      let u = and_both (eqb (kind_in x) 5) _ q.0 in
      let v = and_both (eqb (kind_in y) 5) _ u.1 in
      let w = and_both (eqb (x % 1048576 / 256) (y % 1048576 / 256)) _ v.1 in
      let z = and_both (not (eqb (x % 256) (y % 256))) _ w.1 in
      let t = and_both (has F 0 (2 * (x % 1048576 / 256))) _ z.1 in
      let kx = eqb-true (kind_in x) 5 u.0 in
      let ky = eqb-true (kind_in y) 5 v.0 in
      let same = eqb-true (x % 1048576 / 256) (y % 1048576 / 256) w.0 in
      record {
        role = x % 1048576 / 256;
        one = x % 256;
        other = y % 256;
        role_low = (known.leaf k.0 k.1).within.named kx;
        other_low = omega arith;
        differ = z.0;
        under = t.0;
        apart = t.1;
        left = sym (brings_mark_lem (x % 1048576 / 256) a (x % 256) la) ∙ some_any h.concepts (λ k. has T k a && marker_at (x % 1048576 / 256) (x % 256) k) k.0 k.1 (and_intro _ _ p.0 (is_marker_law x (x % 1048576 / 256) (x % 256) (record { kind = kx; role = refl; class = refl })));
        right = sym (brings_mark_lem (x % 1048576 / 256) b (y % 256) lb) ∙ some_any h.concepts (λ k. has T k b && marker_at (x % 1048576 / 256) (y % 256) k) j.0 j.1 (and_intro _ _ q.1 (is_marker_law y (x % 1048576 / 256) (y % 256) (record { kind = ky; role = sym same; class = refl })));
      }

  marks_show : (x y r c d : ℕ) → IsMarker x r c → IsMarker y r d → not (eqb c d) ≡ true → has F 0 (2 * r) ≡ true → has J c d ≡ true → marks_clash_lem F J x y ≡ true
  unfolding marks_clash_lem
  marks_show x y r c d i j differ under apart =
      rw (i.role, i.class, j.role, j.class) (and_intro _ _ (eq-eqb (kind_in x) 5 i.kind) (and_intro _ _ (eq-eqb (kind_in y) 5 j.kind) (and_intro _ _ (eq-eqb r r refl) (and_intro _ _ differ (and_intro _ _ under apart)))))

  show : (a b : ℕ) → a < h.classes → b < h.classes → Clash a b → any h.concepts (λ k. brings_clash F J T L h.concepts k a b) ≡ true
  show a b la lb w =
      let k = any_some h.concepts (λ k. has T k a && marker_at w.role w.one k) (brings_mark_lem w.role a w.one la ∙ w.left) in
      let j = any_some h.concepts (λ k. has T k b && marker_at w.role w.other k) (brings_mark_lem w.role b w.other lb ∙ w.right) in
      let p = and_both (has T k.0 a) _ k.2 in
      let q = and_both (has T j.0 b) _ j.2 in
      let x = marker_is (get_or L k.0 0) w.role w.one p.1 in
      let y = marker_is (get_or L j.0 0) w.role w.other q.1 in
      some_any h.concepts (λ k. brings_clash F J T L h.concepts k a b) k.0 k.1
      (and_intro _ _ p.0 (some_any h.concepts (λ j. marks_clash_lem F J (get_or L k.0 0) (get_or L j 0) && has T j b) j.0 j.1
      (and_intro _ _ (marks_show (get_or L k.0 0) (get_or L j.0 0) w.role w.one w.other x y w.differ w.under w.apart) q.0)))

  -- ---- of the book

  abbrev pair_test : ℕ → ℕ → Pair → Bool
  pair_test a b p = (eqb p.one a && eqb p.other b) || (not (eqb p.one p.other) && some (functional B) (both_bring B a b p))

  clash_in_lem : (a b : ℕ) → Clash a b → pair_clash B a b ≡ true
  unfolding pair_clash
  clash_in_lem a b w =
      listed_some (disjoint B) w.one w.other (λ c d. pair_test a b (two c d)) (sym (disjoint_has w.one w.other w.other_low) ∙ w.apart)
      (or_right (eqb w.one a && eqb w.other b) _ (and_intro (not (eqb w.one w.other)) _ w.differ (some_map _ _ both (functional B) (sym (functional_has w.role w.role_low) ∙ w.under))))
    where
      both : (q : Role) → (eqb 0 0 && eqb (field_of_lem q) (2 * w.role)) ≡ true → both_bring B a b (two w.one w.other) q ≡ true
      both (Named i) e =
          let n = eqb-true (2 * i) (2 * w.role) (and_both (eqb 0 0) (eqb (2 * i) (2 * w.role)) e).1 in
          let z : i ≡ w.role = omega arith in
          rw z (and_intro (brings_mark B a w.role w.one) _ w.left w.right)
      both (Inverse i) e = absurd (omega (arith, eqb-true (2 * i + 1) (2 * w.role) (and_both (eqb 0 0) (eqb (2 * i + 1) (2 * w.role)) e).1))

  clash_out : (a b : ℕ) (p : Pair) → PairLow h p → ((g : Pair → Bool) → g p ≡ true → some (disjoint B) g ≡ true) → not (eqb p.one p.other) ≡ true → some (functional B) (both_bring B a b p) ≡ true → Clash a b
  clash_out a b p low among differ e =
      let w : Member RoleLow (both_bring B a b p) (functional B) = member RoleLow (both_bring B a b p) (functional B) (functional_low o (book_of s).statements (open_within o)) e in
      go w.it w.holds w.passes w.among
    where
      go : (r : Role) → RoleLow r → both_bring B a b p r ≡ true → ((g : Role → Bool) → g r ≡ true → some (functional B) g ≡ true) → Clash a b
      go (Named r) l e f =
          let q = and_both (brings_mark B a r p.one) (brings_mark B b r p.other) e in
          let m : p.other < 512 = omega (arith, low.1, (open_limits o).classes_top) in
          record {
            role = r;
            one = p.one;
            other = p.other;
            role_low = l;
            other_low = m;
            differ = differ;
            under = functional_has r l ∙ f _ (and_intro _ _ (eq-eqb 0 0 refl) (eq-eqb (2 * r) (2 * r) refl));
            apart = disjoint_has p.one p.other m ∙ among (λ q. eqb q.one p.one && eqb q.other p.other) (and_intro _ _ (eq-eqb p.one p.one refl) (eq-eqb p.other p.other refl));
            left = q.0;
            right = q.1;
          }
      go (Inverse r) l e f = false_true e

  -- THE pairs
  pub pairs_are : {P Q : List ℕ} → Pairs P (from (statements (book_of s)) (disjoint_by (book_of s))) → Paired P (λ a b. any h.concepts λ k. brings_clash F J T L h.concepts k a b) Q → (a b : ℕ) → a < h.classes → b < h.classes → has Q a b ≡ pair_clash (book_of s) a b
  unfolding pair_clash
  pairs_are {P} {Q} told w a b la lb =
      let top = (open_limits o).classes_top in
      w.rows a b (omega arith) (omega arith) ∙ both_ways _ _ into back
    where
      start : has P a b ≡ lists (disjoint B) a b
      start = told a b (omega (arith, lb, (open_limits o).classes_top))

      into : (has P a b || any h.concepts (λ k. brings_clash F J T L h.concepts k a b)) ≡ true → some (disjoint B) (pair_test a b) ≡ true
      into e =
          ⊎_elim
          (λ z. some_map _ _ (λ p q. or_left (eqb p.one a && eqb p.other b) _ q) (disjoint B) (sym start ∙ z))
          (λ z. clash_in_lem a b (shown a b la lb z))
          (or_cases (has P a b) _ e)

      back : some (disjoint B) (pair_test a b) ≡ true → (has P a b || any h.concepts (λ k. brings_clash F J T L h.concepts k a b)) ≡ true
      back e =
          let m : Member (PairLow h) (pair_test a b) (disjoint B) = member (PairLow h) (pair_test a b) (disjoint B) (disjoint_low o (book_of s).statements (open_within o)) e in
          ⊎_elim
          (λ z. or_left (has P a b) _ (start ∙ m.among (λ p. eqb p.one a && eqb p.other b) z))
          (λ z. let q = and_both (not (eqb m.it.one m.it.other)) _ z in or_right (has P a b) _ (show a b la lb (clash_out a b m.it m.holds m.among q.0 q.1)))
          (or_cases (eqb m.it.one a && eqb m.it.other b) _ m.passes)
