-- Rows that get more members: the markers that classes bring.
use Prim.Native.Nat.{ℕ, ◌+◌, ◌-◌, ◌*◌, ◌/◌, ◌%◌, ◌<◌}
use mathlib.Core.Path.{◌≡◌, refl, sym, ap, ◌∙◌}
use mathlib.Core.Bool.{Bool, true, false, ◌&&◌, ◌||◌}
use mathlib.Core.List.{List}
use native.Mathlib.Decide.{ℕ_discrete}
use native.Mathlib.Omega.{arith}
use lib.ListN.{get_or, replicate}
use lib.Dec.{eqb}
use borrow.Author.Tests.{eq-eqb, ne_eqb}
use Rattle.rows.specs.Row.{has, Gathered, Composed}
use Rattle.rows.specs.declared.table.Size.{Size}
use Rattle.rows.specs.Table.{leads}
use Rattle.rules.specs.Rule.{any}
use Rattle.rules.proofs.Tests.{both_ways, and_both, and_intro, any_some, some_any}
use Rattle.tables.specs.Leaf.{kind_in}
use Rattle.verdict.specs.Verdict.{meeting, marker_for, marker_row, RowsWith}
use Rattle.verdict.proofs.verdict.Blank.{row_composed}
use Rattle.verdict.proofs.verdict.Searches.{any_more}

-- a test or one that fails
or_none : (a : Bool) → a ≡ (a || false)
or_none true = refl
or_none false = refl

-- ---- rows with more

-- no more
pub rows_none : {u : List ℕ} {f : ℕ → ℕ → Bool} → ((d i : ℕ) → f d i ≡ false) → RowsWith u f u
rows_none {u} {f} h = record { len = refl; rows = λ d i l m. rw (h d i) (or_none (has u d i)) }

-- first those of f, then those of g
rows_then : {u v w : List ℕ} {f g k : ℕ → ℕ → Bool} → RowsWith u f v → RowsWith v g w → ((d i : ℕ) → (f d i || g d i) ≡ k d i) → RowsWith u k w
rows_then {u} {v} {w} {f} {g} {k} p q h = record {
  len = q.len ∙ p.len;
  rows = λ d i l m. q.rows d i l m ∙ rw (p.rows d i l m) (assoc (has u d i) (f d i) (g d i) ∙ ap (λ (b : Bool). has u d i || b) (h d i));
}
  where
    assoc : (a b c : Bool) → ((a || b) || c) ≡ (a || (b || c))
    assoc true b c = refl
    assoc false b c = refl

-- the same by another test
rows_as : {u v : List ℕ} {f g : ℕ → ℕ → Bool} → RowsWith u f v → ((d i : ℕ) → i < 512 → f d i ≡ g d i) → RowsWith u g v
rows_as {u} {v} {f} {g} p h = record { len = p.len; rows = λ d i l m. p.rows d i l m ∙ ap (λ (b : Bool). has u d i || b) (h d i m) }

-- ---- the marker of a leaf

-- a leaf that is no marker is not the marker (r, d)
marker_none : (r d x : ℕ) → eqb (kind_in x) 5 ≡ false → marker_for r d x ≡ false
marker_none r d x e = rw e

-- nor is one under another role
marker_other : (r d x : ℕ) → eqb (kind_in x) 5 ≡ true → (x % 1048576 / 256 ≡ r → ⊥) → marker_for r d x ≡ false
marker_other r d x e n = rw (e, ne_eqb (x % 1048576 / 256) r n)

-- one under r is, if it has the class d
marker_this : (r d x : ℕ) → eqb (kind_in x) 5 ≡ true → x % 1048576 / 256 ≡ r → marker_for r d x ≡ eqb (x % 256) d
marker_this r d x e q = rw (e, eq-eqb (x % 1048576 / 256) r q) (sym (or_none (eqb (x % 256) d)))

-- what put_marker does of a leaf x, for those that pass h
module _ {u : List ℕ} {marker : Bool} (r x : ℕ) (h : ℕ → Bool) (test : marker ≡ eqb (kind_in x) 5) where
  -- no marker: nothing
  pub put_none : marker ≡ false → RowsWith u (λ d i. marker_for r d x && h i) u
  put_none e = rows_none (λ d i. rw (marker_none r d x (sym test ∙ e)))

  -- a marker under another role: nothing
  pub put_other : {role : ℕ} → marker ≡ true → role ≡ x % 1048576 / 256 → (role ≡ r → ⊥) → RowsWith u (λ d i. marker_for r d x && h i) u
  put_other e q n = rows_none (λ d i. rw (marker_other r d x (sym test ∙ e) (λ z. n (q ∙ z))))

  -- a marker under r: they go into the row of its class
  put_this : {mask v : List ℕ} {role class : ℕ} → marker ≡ true → role ≡ x % 1048576 / 256 → role ≡ r → class ≡ x % 256 → ((i : ℕ) → i < 512 → has mask 0 i ≡ h i) → Gathered u class mask 0 v
      → RowsWith u (λ d i. marker_for r d x && h i) v
  put_this {mask} {v} {role} {class} e q n k f g = record { len = g.len; rows = λ d i l m. rw (marker_this r d x (sym test ∙ e) (sym q ∙ n), ← k) (go d i m (ℕ_discrete class d)) }
    where
      go : (d i : ℕ) → i < 512 → Dec (class ≡ d) → has v d i ≡ (has u d i || (eqb class d && h i))
      go d i m (yes s) = rw (eq-eqb class d s, ← s, ← f i m) (g.all i m)
      go d i m (no s) = rw (ne_eqb class d s) (g.other (d * 512 + i) (λ z. s (omega arith)) ∙ or_none (has u d i))

-- and those are what is of a class that takes concept k
pub put_taken : {marker : Bool} {u mask v t : List ℕ} {role class base : ℕ} (n r x k : ℕ) (T : List ℕ) → marker ≡ eqb (kind_in x) 5 → marker ≡ true → role ≡ x % 1048576 / 256 → role ≡ r → class ≡ x % 256
    → Composed (replicate 8 0) T k t base 0 n n mask → Gathered u class mask 0 v → RowsWith u (λ d i. marker_for r d x && meeting n (has T k) (λ c. has t (base + c) i)) v
put_taken n r x k T test e q o f p g = put_this r x _ test e q o f (row_composed p) g

-- ---- a loop over all numbers k, each of which puts those that pass g k d into row d

-- done with the numbers below k
pub record Brought (u : List ℕ) (g : ℕ → ℕ → ℕ → Bool) (k : ℕ) (v : List ℕ) : Type 0 where
  pub done : RowsWith u (λ d i. any k (λ j. g j d i)) v

module _ {u : List ℕ} {g : ℕ → ℕ → ℕ → Bool} where
  -- nothing is done
  pub brought_none : Brought u g 0 u
  brought_none = record { done = rows_none (λ d i. refl) }

  -- k is done
  pub brought_more : {v w : List ℕ} {k : ℕ} → Brought u g k v → RowsWith v (g k) w → Brought u g (k + 1) w
  brought_more {k = k} p q = record { done = rows_then p.done q (λ d i. swap (any k (λ j. g j d i)) (g k d i) ∙ sym (any_more k (λ j. g j d i))) }
    where
      swap : (a b : Bool) → (a || b) ≡ (b || a)
      swap true true = refl
      swap true false = refl
      swap false true = refl
      swap false false = refl

-- ---- the markers of a role, by concept and by class

-- a concept that passes f, and a class that takes it and passes h; and the other way round
taken_same : (n m : ℕ) (T : List ℕ) (f h : ℕ → Bool) → any n (λ k. f k && meeting m (has T k) h) ≡ any m (λ c. h c && any n (λ k. has T k c && f k))
taken_same n m T f h = both_ways (any n _) (any m _)
    (λ e. let k = any_some n _ e in let a = and_both (f k.0) (meeting m (has T k.0) h) k.2 in let c = any_some m _ a.1 in let b = and_both (has T k.0 c.0) (h c.0) c.2 in
    some_any m _ c.0 c.1 (and_intro _ _ b.1 (some_any n _ k.0 k.1 (and_intro _ _ b.0 a.0))))
    (λ e. let c = any_some m _ e in let a = and_both (h c.0) (any n (λ k. has T k c.0 && f k)) c.2 in let k = any_some n _ a.1 in let b = and_both (has T k.0 c.0) (f k.0) k.2 in
    some_any n _ k.0 k.1 (and_intro _ _ b.1 (some_any m _ c.0 c.1 (and_intro _ _ b.0 a.0))))

-- what the first n concepts put into the rows are the markers that the classes bring
pub markers_brought : {u v : List ℕ} (z : Size) (t T L : List ℕ) (n r : ℕ) → Brought u (λ k d i. marker_for r d (get_or L k 0) && meeting z.classes (has T k) (λ c. leads z t (z.fields - 1) c i)) n v → RowsWith u (marker_row z t T L n r z.classes) v
markers_brought z t T L n r p = rows_as p.done (λ d i l. taken_same n z.classes T (λ k. marker_for r d (get_or L k 0)) (λ c. leads z t (z.fields - 1) c i))
