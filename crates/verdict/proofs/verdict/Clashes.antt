-- Clashes of rows.
use Prim.Native.Nat.{ℕ, ◌+◌, ◌-◌, ◌*◌, ◌/◌, ◌<◌}
use mathlib.Core.Path.{◌≡◌, refl, ap, ◌∙◌}
use mathlib.Core.Bool.{Bool, true, false, ◌&&◌}
use mathlib.Core.List.{List}
use native.Mathlib.Nat.{zero-add}
use native.Mathlib.Omega.{arith}
use lib.ListN.{replicate}
use Rattle.rows.specs.Row.{has, Gathered}
use Rattle.rows.specs.declared.table.Size.{Size}
use Rattle.rows.specs.Table.{leads, Sized}
use Rattle.rules.specs.Rule.{any}
use Rattle.said.specs.Layout.{part}
use Rattle.said.specs.declared.layout.Layout.{Layout}
use Rattle.said.specs.declared.layout.Relation.TheVariants.{Functional, Disjoint, Takers}
use Rattle.verdict.specs.Verdict.{meeting, counting, row_clash_lem, rows_clash_lem, marker_row, clash_in, RowsWith}
use Rattle.verdict.proofs.verdict.Blank.{blank, row_taken}
use Rattle.verdict.proofs.verdict.Searches.{any_same}

-- ---- rows that agree clash alike

module _ (n m : ℕ) (dis : List ℕ) (own : Bool) where
  -- of one row, which is f or g
  row_clash_same : (f g : ℕ → Bool) (M N : ℕ → ℕ → Bool) → ((i : ℕ) → i < n → f i ≡ g i) → ((d i : ℕ) → d < m → i < n → M d i ≡ N d i) → (c : ℕ)
      → any m (λ d. has dis c d && (counting own c d && meeting n f (M d))) ≡ any m (λ d. has dis c d && (counting own c d && meeting n g (N d)))
  row_clash_same f g M N p q c =
      any_same m _ _ (λ d l. ap (λ (b : Bool). has dis c d && (counting own c d && b)) (any_same n _ _ (λ i k. rw (p i k, q d i l k))))

  -- of all rows
  rows_clash_same : {M N : ℕ → ℕ → Bool} → ((d i : ℕ) → d < m → i < n → M d i ≡ N d i) → rows_clash_lem n m dis own M ≡ rows_clash_lem n m dis own N
  unfolding rows_clash_lem
  rows_clash_same {M} {N} q = any_same m _ _ (λ c l. row_clash_same (M c) (N c) M N (λ i k. q c i l k) q c)

-- the row of c as a mask
pub row_clash_taken : {mask s : List ℕ} (z : Size) (dis : List ℕ) (own : Bool) (base c : ℕ) → Sized z → Gathered (replicate 8 0) 0 s (base + c) mask
    → any z.classes (λ d. has dis c d && (counting own c d && meeting z.individuals (has mask 0) (has s (base + d)))) ≡ row_clash_lem z.individuals z.classes dis own (λ x. has s (base + x)) c
row_clash_taken {mask} {s} z dis own base c k g =
    row_clash_same z.individuals z.classes dis own (has mask 0) (has s (base + c)) (λ d. has s (base + d)) (λ d. has s (base + d))
    (λ i l. row_taken 8 g i (omega (arith, k.individuals))) (λ d i l o. refl) c

-- rows that were blank and are those of M now
pub rows_clash_blank : {v : List ℕ} {M : ℕ → ℕ → Bool} (w : ℕ) (z : Size) (dis : List ℕ) (own : Bool) → Sized z → RowsWith (replicate w 0) M v
    → rows_clash_lem z.individuals z.classes dis own (λ x. has v (0 + x)) ≡ rows_clash_lem z.individuals z.classes dis own M
rows_clash_blank {v} {M} w z dis own k p =
    rows_clash_same z.individuals z.classes dis own
    (λ d i l o. rw zero-add (p.rows d i (omega (arith, k.classes)) (omega (arith, k.individuals)) ∙ rw (blank w (d * 512 + i))))

-- ---- the clash of a table, by the parts that it is looked for in: the disjoint pairs J, what takes a concept M, and the functional fields F

module _ (l : Layout) (t S L : List ℕ) {J : List ℕ} {x : Bool} (disjoint : J ≡ part l Disjoint S)
    (rows : x ≡ rows_clash_lem l.size.individuals l.size.classes J true (λ c i. leads l.size t (l.size.fields - 1) c i)) where
  -- of classes
  pub clash_rows : x ≡ true → true ≡ clash_in l t S L
  unfolding clash_in
  clash_rows e = rw (← disjoint, ← rows, e) refl

  -- none of classes: of markers
  pub clash_markers : {M F : List ℕ} {y : Bool} → M ≡ part l Takers S → F ≡ part l Functional S → x ≡ false
      → y ≡ any (l.size.fields / 2 - 1) (λ r. has F 0 (2 * r) && rows_clash_lem l.size.individuals l.size.classes J false (marker_row l.size t M L l.concepts r l.size.classes))
      → y ≡ clash_in l t S L
  unfolding clash_in
  clash_markers takers functional e markers = rw (← takers, ← functional, ← disjoint, ← rows, e) markers
