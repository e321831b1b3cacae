-- The ways of the functions that try the premises in any order.
use Prim.Native.Nat.{ℕ, ◌<◌, ◌≤◌}
use native.Mathlib.Omega.{arith}
use mathlib.Core.Path.{◌≡◌, refl, ap, ap₂, sym, ◌∙◌}
use mathlib.Core.Bool.{Bool, true, false, ◌&&◌, ◌||◌}
use mathlib.Core.List.{List}
use lib.ListN.{get_or}
use lib.Dec.{eqb, ltb}
use borrow.Author.Tests.{ltb-true, lt-ltb, le-ltb}
use Rattle.book.specs.Header.{Limits}
use Rattle.book.specs.Book.{Book}
use Rattle.book.specs.declared.header.Counts.{Counts}
use Rattle.book.specs.declared.role.Role.TheVariants.{Named}
use Rattle.rows.specs.Row.{has}
use Rattle.rules.specs.Fact.{type}
use Rattle.rules.specs.ToldSame.{same}
use Rattle.rules.proofs.Tests.{false_true, or_left, and_both}
use Rattle.derivation.specs.Fits.{leads_from_lem, leads_to_lem, bearer, class_in_lem, role_in_lem, is_edge_lem, changes, share_types_lem, share_edges_lem, share_fits_lem, clash_fits_lem, one_of_three}
use Rattle.derivation.specs.Tables.{told_same_lem, one_class_by, LabelsOf, PairsOf}
use Rattle.derivation.proofs.Fitting.{IsEdge, is_edge_law}
use Rattle.derivation.proofs.Chaining.{three_same, three_none, both_ends, either_shared}

and-false : (a : Bool) → false ≡ (a && false)
and-false true = refl
and-false false = refl

all_none : (a b c d e z : Bool) → (a && (b && (c && (d && e)))) ≡ false → (a && (b && (c && (d && (e && z))))) ≡ false
all_none false b c d e z i = refl
all_none true false c d e z i = refl
all_none true true false d e z i = refl
all_none true true true false e z i = refl
all_none true true true true false z i = refl
all_none true true true true true z i = false_true (sym i)

all_same : (a b c d e z : Bool) → (a && (b && (c && (d && e)))) ≡ true → (a && (b && (c && (d && (e && z))))) ≡ z
all_same false b c d e z i = false_true i
all_same true false c d e z i = false_true i
all_same true true false d e z i = false_true i
all_same true true true false e z i = false_true i
all_same true true true true false z i = false_true i
all_same true true true true true z i = refl

edge_none : (a b c z : Bool) → (b && c) ≡ false → (a && (b && (c && z))) ≡ false
edge_none false b c z i = refl
edge_none true false c z i = refl
edge_none true true false z i = refl
edge_none true true true z i = false_true (sym i)

module _ (n : ℕ) (K : List ℕ) (i j : ℕ) where
  pub same_yes : {r : Bool} → i < n → j < n → r ≡ eqb (get_or K i 0) (get_or K j 0) → r ≡ told_same_lem n K i j
  unfolding told_same_lem
  same_yes l m e = rw (lt-ltb i n l, lt-ltb j n m) e

  pub same_second : i < n → n ≤ j → false ≡ told_same_lem n K i j
  unfolding told_same_lem
  same_second l m = rw (lt-ltb i n l, le-ltb j n m) refl

  pub same_first : n ≤ i → false ≡ told_same_lem n K i j
  unfolding told_same_lem
  same_first l = rw (le-ltb i n l) refl

  pub told_class : (p q r : ℕ) {a : Bool} → a ≡ told_same_lem n K i j → a ≡ true → true ≡ one_of_three p q r (one_class_by n K i j)
  told_class p q r e k = sym (or_left (one_class_by n K i j p) _ (or_left (told_same_lem n K i j) _ (sym e ∙ k)))

module _ {B : Book} {h : Counts} {K : List ℕ} (t : LabelsOf B h K) where
  told_is : (i j : ℕ) → ltb i h.individuals ≡ true → ltb j h.individuals ≡ true → told_same_lem h.individuals K i j ≡ same B i j
  unfolding told_same_lem
  told_is i j e f = rw (e, f) (t.labels i j (ltb-true i _ e) (ltb-true j _ f))

  one_class_is : (i j x : ℕ) → ltb i h.individuals ≡ true → ltb j h.individuals ≡ true → one_class_by h.individuals K i j x ≡ changes B i j x
  unfolding changes
  one_class_is i j x e f = rw (told_is i j e f) refl

  pub pair_told : (i j : ℕ) → i < h.individuals → j < h.individuals → told_same_lem h.individuals K i j ≡ same B i j
  pair_told i j l m = told_is i j (lt-ltb i _ l) (lt-ltb j _ m)

  module _ (p q r : ℕ) where
    -- a type of the same class
    abbrev Alike : ℕ → ℕ → ℕ → ℕ → ℕ → ℕ → ℕ → Bool → Type 0
    Alike f g i j c u v y = (ltb i h.individuals && (ltb j h.individuals && (ltb c h.classes && (eqb g u && eqb f v)))) ≡ y

    module _ (f g : ℕ) {i j c u v : ℕ} (ei : i ≡ bearer g) (ej : j ≡ bearer f) (ec : c ≡ class_in_lem g) (eu : u ≡ type i c) (ev : v ≡ type j c) where
      alike_is : {y : Bool} → Alike f g i j c u v y → Alike f g (bearer g) (bearer f) (class_in_lem g) (type (bearer g) (class_in_lem g)) (type (bearer f) (class_in_lem g)) y
      alike_is e = rw (eu, ev, ei, ej, ec) at e

      pub types_none : Alike f g i j c u v false → false ≡ one_of_three p q r (share_types_lem h B f g)
      unfolding share_types_lem
      types_none e =
          three_none p q r _ λ x. all_none (ltb (bearer g) h.individuals) (ltb (bearer f) h.individuals) (ltb (class_in_lem g) h.classes) (eqb g (type (bearer g) (class_in_lem g))) (eqb f (type (bearer f) (class_in_lem g)))
          (changes B (bearer g) (bearer f) x) (alike_is e)

      pub types_share : {s : Bool} → Alike f g i j c u v true → s ≡ one_of_three p q r (one_class_by h.individuals K i j) → s ≡ one_of_three p q r (share_types_lem h B f g)
      unfolding share_types_lem
      types_share e w =
          let a = alike_is e in
          let l = and_both (ltb (bearer g) h.individuals) _ a in
          let m = and_both (ltb (bearer f) h.individuals) _ l.1 in
          (rw (ei, ej) at w)
          ∙ three_same p q r _ _ λ x. one_class_is (bearer g) (bearer f) x l.0 m.0
          ∙ sym (all_same (ltb (bearer g) h.individuals) (ltb (bearer f) h.individuals) (ltb (class_in_lem g) h.classes) (eqb g (type (bearer g) (class_in_lem g))) (eqb f (type (bearer f) (class_in_lem g)))
          (changes B (bearer g) (bearer f) x) a)

    module _ (f g : ℕ) {k : ℕ} (er : k ≡ role_in_lem g) where
      pub edges_past : h.roles ≤ k → false ≡ one_of_three p q r (λ x. one_of_three p q r (share_edges_lem h B f g x))
      unfolding share_edges_lem
      edges_past l =
          let m : h.roles ≤ role_in_lem g = omega arith in
          three_none p q r (λ x. one_of_three p q r (share_edges_lem h B f g x)) λ x. sym (three_none p q r (share_edges_lem h B f g x) λ y. rw (le-ltb (role_in_lem g) h.roles m) refl)

      -- an edge of the same role
      module _ {one other y : Bool} (eo : one ≡ is_edge_lem h.individuals (Named k) g) (eh : other ≡ is_edge_lem h.individuals (Named k) f) (alike : (one && other) ≡ y) where
        edges_are : (is_edge_lem h.individuals (Named (role_in_lem g)) g && is_edge_lem h.individuals (Named (role_in_lem g)) f) ≡ y
        edges_are = rw (eo, eh, er) at alike

        pub edges_none : y ≡ false → false ≡ one_of_three p q r (λ x. one_of_three p q r (share_edges_lem h B f g x))
        unfolding share_edges_lem
        edges_none e =
            three_none p q r (λ x. one_of_three p q r (share_edges_lem h B f g x)) λ x. sym (three_none p q r (share_edges_lem h B f g x) λ z. edge_none
            (ltb (role_in_lem g) h.roles) (is_edge_lem h.individuals (Named (role_in_lem g)) g) (is_edge_lem h.individuals (Named (role_in_lem g)) f)
            (changes B (leads_from_lem (Named 0) g) (leads_from_lem (Named 0) f) x && changes B (leads_to_lem (Named 0) g) (leads_to_lem (Named 0) f) z) (edges_are ∙ e))

        pub edges_share : Limits h → k < h.roles → y ≡ true → {i j m n : ℕ} {first second : Bool}
            → i ≡ leads_from_lem (Named 0) g → j ≡ leads_from_lem (Named 0) f → first ≡ one_of_three p q r (one_class_by h.individuals K i j)
            → m ≡ leads_to_lem (Named 0) g → n ≡ leads_to_lem (Named 0) f → second ≡ one_of_three p q r (one_class_by h.individuals K m n)
            → (first && second) ≡ one_of_three p q r (λ x. one_of_three p q r (share_edges_lem h B f g x))
        unfolding share_edges_lem
        edges_share top lr e ei ej e1 em en e2 =
            ap₂ ◌&&◌ ((rw (ei, ej) at e1) ∙ three_same p q r _ _ from_is) ((rw (em, en) at e2) ∙ three_same p q r _ _ to_is)
            ∙ (both_ends p q r from_by to_by
            ∙ three_same p q r (λ x. one_of_three p q r (λ z. from_by x && to_by z)) (λ x. one_of_three p q r (share_edges_lem h B f g x))
            λ x. three_same p q r (λ z. from_by x && to_by z) (share_edges_lem h B f g x) λ z. rw (lt-ltb (role_in_lem g) h.roles low, ends.0, ends.1) refl)
          where
            from_by : ℕ → Bool
            from_by = changes B (leads_from_lem (Named 0) g) (leads_from_lem (Named 0) f)

            to_by : ℕ → Bool
            to_by = changes B (leads_to_lem (Named 0) g) (leads_to_lem (Named 0) f)

            low : role_in_lem g < h.roles
            low = omega (arith, er, lr)

            few : role_in_lem g < 64
            few = omega (arith, low, top.roles_top)

            ends : (is_edge_lem h.individuals (Named (role_in_lem g)) g ≡ true) × (is_edge_lem h.individuals (Named (role_in_lem g)) f ≡ true)
            ends = and_both _ _ (edges_are ∙ e)

            g_edge : IsEdge h.individuals (Named (role_in_lem g)) g
            g_edge = is_edge_law h.individuals top.individuals_top (Named (role_in_lem g)) g few ends.0

            f_edge : IsEdge h.individuals (Named (role_in_lem g)) f
            f_edge = is_edge_law h.individuals top.individuals_top (Named (role_in_lem g)) f few ends.1

            from_is : (x : ℕ) → one_class_by h.individuals K (leads_from_lem (Named 0) g) (leads_from_lem (Named 0) f) x ≡ changes B (leads_from_lem (Named 0) g) (leads_from_lem (Named 0) f) x
            from_is x = one_class_is _ _ x (lt-ltb (leads_from_lem (Named 0) g) _ g_edge.from_low) (lt-ltb (leads_from_lem (Named 0) f) _ f_edge.from_low)

            to_is : (x : ℕ) → one_class_by h.individuals K (leads_to_lem (Named 0) g) (leads_to_lem (Named 0) f) x ≡ changes B (leads_to_lem (Named 0) g) (leads_to_lem (Named 0) f) x
            to_is x = one_class_is _ _ x (lt-ltb (leads_to_lem (Named 0) g) _ g_edge.to_low) (lt-ltb (leads_to_lem (Named 0) f) _ f_edge.to_low)

-- ---- a type or an edge

module _ (p q r : ℕ) (h : Counts) (B : Book) (f g : ℕ) {a : Bool} (e : a ≡ one_of_three p q r (share_types_lem h B f g)) where
  pub shared_type : a ≡ true → true ≡ one_of_three p q r (λ x. one_of_three p q r (share_fits_lem h B f g x))
  unfolding share_fits_lem
  shared_type i = sym (either_shared p q r (share_types_lem h B f g) (share_edges_lem h B f g) ∙ or_left _ _ (sym e ∙ i))

  pub shared_edge : {b : Bool} → a ≡ false → b ≡ one_of_three p q r (λ x. one_of_three p q r (share_edges_lem h B f g x)) → b ≡ one_of_three p q r (λ x. one_of_three p q r (share_fits_lem h B f g x))
  unfolding share_fits_lem
  shared_edge {b} i w = w ∙ sym (either_shared p q r (share_types_lem h B f g) (share_edges_lem h B f g) ∙ ap (λ z. z || one_of_three p q r (λ x. one_of_three p q r (share_edges_lem h B f g x))) (sym e ∙ i))

module _ {B : Book} {h : Counts} {P : List ℕ} (t : PairsOf B h P) (g k : ℕ) where
  pub clash_first : {c : ℕ} → c ≡ class_in_lem g → h.classes ≤ c → false ≡ clash_fits_lem h B g k
  unfolding clash_fits_lem
  clash_first {c} e l = let m : h.classes ≤ class_in_lem g = omega arith in rw (le-ltb (class_in_lem g) h.classes m) (and-false (ltb (bearer g) h.individuals))

  pub clash_second : {c d : ℕ} → c ≡ class_in_lem g → c < h.classes → d ≡ class_in_lem k → h.classes ≤ d → false ≡ clash_fits_lem h B g k
  unfolding clash_fits_lem
  clash_second {c} {d} e l f m =
      let x : class_in_lem g < h.classes = omega arith in
      let y : h.classes ≤ class_in_lem k = omega arith in
      rw (lt-ltb (class_in_lem g) h.classes x, le-ltb (class_in_lem k) h.classes y) (and-false (ltb (bearer g) h.individuals))

  pub clash_both : {i c d x y : ℕ} {s : Bool} → i ≡ bearer g → c ≡ class_in_lem g → d ≡ class_in_lem k → c < h.classes → d < h.classes → x ≡ type i c → y ≡ type i d → s ≡ has P c d
      → (ltb i h.individuals && (eqb g x && (eqb k y && s))) ≡ clash_fits_lem h B g k
  unfolding clash_fits_lem
  clash_both {i} {c} {d} ei ec ed lc ld ex ey es =
      let m : class_in_lem g < h.classes = omega arith in
      let n : class_in_lem k < h.classes = omega arith in
      rw (es, ex, ey, ei, ec, ed, lt-ltb (class_in_lem g) h.classes m, lt-ltb (class_in_lem k) h.classes n, t.pairs (class_in_lem g) (class_in_lem k) m n) refl
