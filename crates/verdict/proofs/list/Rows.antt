-- The loops that list what is gathered.
use Prim.Native.Nat.{ℕ, ◌+◌, ◌-◌, ◌<◌, ◌≤◌, min}
use native.Mathlib.Omega.{arith}
use mathlib.Core.Path.{◌≡◌, refl, ap, sym, ◌∙◌}
use mathlib.Core.Bool.{Bool, true, false}
use mathlib.Core.List.{List, [], ◌∷◌, ◌++◌}
use lib.ListN.{length, length-append}
use Rattle.rows.specs.Row.{Scan}
use Rattle.rules.specs.Fact.{Two, Three}
use Rattle.rules.specs.Lists.{gather, only, entries2, entries3}
use Rattle.verdict.specs.Listing.{Written}
use Rattle.verdict.proofs.list.Gathers.{gather_more, gather_plus, gather_over, only_true}
use Rattle.verdict.proofs.list.Writing.{written_none, written_then, written_as}

-- e lays rows out as entries, one row after the other
pub record Lays {A : Type 0} (e : List A → List ℕ) : Type 0 where
  pub none : e [] ≡ []
  pub append : (l m : List A) → e (l ++ m) ≡ e l ++ e m

pub lays_two : Lays entries2
lays_two = record { none = refl; append = go }
  where
    go : (l m : List Two) → entries2 (l ++ m) ≡ entries2 l ++ entries2 m
    go [] m = refl
    go (x ∷ l) m = ap (λ (r : List ℕ). x.one ∷ x.other ∷ r) (go l m)

pub lays_three : Lays entries3
lays_three = record { none = refl; append = go }
  where
    go : (l m : List Three) → entries3 (l ++ m) ≡ entries3 l ++ entries3 m
    go [] m = refl
    go (x ∷ l) m = ap (λ (r : List ℕ). x.role ∷ x.one ∷ x.other ∷ r) (go l m)

module _ {A : Type 0} {e : List A → List ℕ} (y : Lays e) where
  -- how many entries d numbers more give
  split : (m d : ℕ) (f : ℕ → List A) → length (e (gather (m + d) f)) ≡ length (e (gather m f)) + length (e (gather d (λ j. f (m + j))))
  split m d f = ap (λ (r : List A). length (e r)) (gather_plus m d f) ∙ ap length (y.append (gather m f) (gather d (λ j. f (m + j)))) ∙ length-append (e (gather m f)) (e (gather d (λ j. f (m + j))))

  -- what comes before m, and what the d numbers from m on give, are a part of what is gathered
  part : (m d n : ℕ) (f : ℕ → List A) → m + d ≤ n → length (e (gather m f)) + length (e (gather d (λ j. f (m + j)))) ≤ length (e (gather n f))
  part m d n f h =
      let u : m + d + (n - (m + d)) ≡ n = omega arith in
      omega (arith, split m d f, rw u at (split (m + d) (n - (m + d)) f))

  -- room for what d numbers from b on give, and for what b gives, once all before b was written
  module _ {l : List ℕ} {at : ℕ} (f : ℕ → List A) (b : ℕ) {i : ℕ} {o : List ℕ} (w : Written l at (e (gather b f)) o i) (n : ℕ) (r : at + length (e (gather n f)) ≤ length l) where
    pub block_room : (d : ℕ) → b + d ≤ n → i + length (e (gather d (λ j. f (b + j)))) ≤ length o
    block_room d h = omega (arith, w.len, w.behind, part b d n f h)

    room : b < n → i + length (e (f b)) ≤ length o
    room h = let z : b + 0 ≡ b = omega arith in rw z at (block_room 1 (omega arith))

-- ---- a loop over all numbers below n: what f gives for those below b was written from the first entry on

pub record Rows {A : Type 0} (e : List A → List ℕ) (f : ℕ → List A) (n : ℕ) (l : List ℕ) (b : ℕ) (o : List ℕ) (i : ℕ) : Type 0 where
  pub below : b ≤ n
  pub written : Written l 0 (e (gather b f)) o i

module _ {A : Type 0} {e : List A → List ℕ} (y : Lays e) {f : ℕ → List A} {n : ℕ} {l : List ℕ} where
  -- none yet, one number more, and room for it
  pub rows_start : Rows e f n l 0 l 0
  rows_start = record { below = omega arith; written = written_as (sym y.none) written_none }

  module _ {b i : ℕ} {o : List ℕ} (d : Rows e f n l b o i) where
    pub rows_more : b < n → {p : List ℕ} {j : ℕ} → Written o i (e (f b)) p j → Rows e f n l (b + 1) p j
    rows_more h w = record { below = omega arith; written = written_as (sym (ap e (gather_more b f) ∙ y.append (gather b f) (f b))) (written_then d.written w) }

    pub rows_room : length (e (gather n f)) ≤ length l → b < n → i + length (e (f b)) ≤ length o
    rows_room r h = room y f b d.written n (omega arith) h

    -- at the end all were written, and they fit
    module _ (h : n ≤ b) where
      pub rows_all : Written l 0 (e (gather n f)) o i
      rows_all = let q : b ≡ n = omega (arith, d.below) in rw q at d.written

      pub rows_end : length (e (gather n f)) ≤ length l → i ≤ length o
      rows_end r = let w = rows_all in omega arith

-- ---- a loop over the members of m: what f gives for those below p and n was written

pub record Listed {A : Type 0} (e : List A → List ℕ) (f : ℕ → List A) (n : ℕ) (l : List ℕ) (at p : ℕ) (o : List ℕ) (i : ℕ) : Type 0 where
  pub written : Written l at (e (gather (min p n) f)) o i

module _ {A : Type 0} {e : List A → List ℕ} (y : Lays e) {n : ℕ} {l : List ℕ} {at : ℕ} {f : ℕ → List A} where
  -- where f gives nothing below p
  pub listed_start : (p : ℕ) → ((k : ℕ) → k < p → f k ≡ []) → Listed e f n l at p l at
  listed_start p h = record { written = written_as (sym (ap e (gather_over 0 (min p n) f (omega arith) (λ k a q. h k (omega arith))) ∙ y.none)) written_none }

  -- one member more, and room for it
  pub listed_more : {b i : ℕ} {o : List ℕ} → Listed e f n l at b o i → b < n → {p : List ℕ} {j : ℕ} → Written o i (e (f b)) p j → Listed e f n l at (b + 1) p j
  listed_more {b} d h w =
      let q : min (b + 1) n ≡ b + 1 = omega arith in
      let r : min b n ≡ b = omega arith in
      record { written = written_as (rw q (sym (ap e (gather_more b f) ∙ y.append (gather b f) (f b)))) (written_then (rw r at d.written) w) }

  pub listed_room : {b i : ℕ} {o : List ℕ} → Listed e f n l at b o i → at + length (e (gather n f)) ≤ length l → b < n → i + length (e (f b)) ≤ length o
  listed_room {b} d r h = let q : min b n ≡ b = omega arith in room y f b (rw q at d.written) n r h

  module _ {m : ℕ → Bool} (none : (k : ℕ) → k < n → m k ≡ false → f k ≡ []) {p i : ℕ} {o : List ℕ} (d : Listed e f n l at p o i) where
    -- up to the next member
    pub listed_to : {r : ℕ} → Scan m p n r → r ≤ n → Listed e f n l at r o i
    listed_to {r} s h = record { written = written_as (sym (ap e (gather_over (min p n) (min r n) f (omega (arith, s.ge)) (λ k a q. none k (omega arith) (s.gap k (omega (arith, s.ge)) (omega arith)))))) d.written }

    -- and where none is left
    pub listed_all : ((k : ℕ) → p ≤ k → k < n → m k ≡ false) → Written l at (e (gather n f)) o i
    listed_all g = written_as (sym (ap e (gather_over (min p n) n f (omega arith) (λ k a q. none k q (g k (omega arith) q))))) d.written

-- so with one row for each member
module _ {A : Type 0} {e : List A → List ℕ} (y : Lays e) {n : ℕ} {l : List ℕ} {at : ℕ} (m : ℕ → Bool) (x : ℕ → A) {b i : ℕ} {o : List ℕ} (d : Listed e (λ k. only (m k) (x k)) n l at b o i) (h : b < n) (t : m b ≡ true) where
  pub members_more : {p : List ℕ} {j : ℕ} → Written o i (e (x b ∷ [])) p j → Listed e (λ k. only (m k) (x k)) n l at (b + 1) p j
  members_more w = listed_more y d h (written_as (ap e (sym (only_true (x b) t))) w)

  pub members_room : at + length (e (gather n (λ k. only (m k) (x k)))) ≤ length l → i + length (e (x b ∷ [])) ≤ length o
  members_room r = rw (only_true (x b) t) at (listed_room y d r h)
