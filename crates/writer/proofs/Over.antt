-- Bytes laid over others: one after the other is both at once.
use Prim.Native.Nat.{ℕ, zero, suc, ◌+◌, ◌-◌, ◌≤◌, ◌<◌}
use native.Mathlib.Omega.{arith}
use native.Mathlib.Numerals.{add-one}
use mathlib.Core.Path.{◌≡◌, refl, sym, ap, ap₂, ◌∙◌, subst}
use mathlib.Core.List.{List, [], ◌∷◌, ◌++◌, append_assoc, append-nil}
use lib.ListN.{length, get_or, take, drop, length-append, length-drop, take-append-drop}
use lib.Seq.{paste, slice, length-slice, length-take-le, take_at, drop-append-add, drop-drop}
use borrow.Rule.Slice.PartMut.{put_mid}
use mathlib.Core.Bool.{Bool, true, false}
use lib.Dec.{eqb}
use borrow.Author.Tests.{eq-eqb, ne_eqb, eqb-false}
use Rattle.std.proofs.lemmas.List.Edits.{paste_all}
use Rattle.book.specs.Read.{pick}
use Rattle.book.specs.Bytes.{two_of}
use Rattle.writer.specs.Lay.{over, recounted, total, records_bytes, Stand}

pub slice_take : (s : List ℕ) (from n : ℕ) → slice from (from + n) s ≡ take n (drop from s)
slice_take s zero n = let q : 0 + n ≡ n = omega arith in rw q refl
slice_take [] (suc f) n = let q : suc f + n ≡ suc (f + n) = omega arith in rw q (nothing n)
  where
    nothing : (n : ℕ) → ◌≡◌ {A = List ℕ} [] (take n [])
    nothing zero = refl
    nothing (suc n) = refl
slice_take (x ∷ s) (suc f) n = let q : suc f + n ≡ suc (f + n) = omega arith in rw q (slice_take s f n)

pub slice_size : (s : List ℕ) (from n : ℕ) → from + n ≤ length s → length (slice from (from + n) s) ≡ n
slice_size s from n l = length-slice from (from + n) s l ∙ omega arith

module _ (o : List ℕ) (a : ℕ) (l : List ℕ) (fits : a + length l ≤ length o) where
  head_size : length (take a o ++ l) ≡ a + length l
  head_size = length-append (take a o) l ∙ omega (arith, length-take-le a o (omega arith))

  pub over_length : length (over o a l) ≡ length o
  unfolding over
  over_length = length-append (take a o ++ l) (drop (a + length l) o) ∙ omega (arith, head_size, length-drop (a + length l) o)

  pub over_over : (k : List ℕ) → over (over o a l) (a + length l) k ≡ over o a (l ++ k)
  unfolding over
  over_over k =
      let t : take (a + length l) (take a o ++ l ++ drop (a + length l) o) ≡ take a o ++ l = take_at (take a o ++ l) (drop (a + length l) o) (a + length l) head_size in
      let n : a + length l + length k ≡ length (take a o ++ l) + length k = omega (arith, head_size) in
      let d : drop (a + length l + length k) (take a o ++ l ++ drop (a + length l) o) ≡ drop (a + length l + length k) o = ap (λ (m : ℕ). drop m (take a o ++ l ++ drop (a + length l) o)) n ∙ (drop-append-add (take a o ++ l) (drop (a + length l) o) (length k) ∙ drop-drop (length k) (a + length l) o) in
      let m : a + length l + length k ≡ a + length (l ++ k) = omega (arith, length-append l k) in
      ap₂ (λ (p : List ℕ) (q : List ℕ). p ++ k ++ q) t (d ∙ ap (λ (i : ℕ). drop i o) m)
      ∙ ap (λ (p : List ℕ). p ++ drop (a + length (l ++ k)) o) (append_assoc (take a o) l k)

pub over_none : (o : List ℕ) (a : ℕ) → over o a [] ≡ o
unfolding over
over_none o a = let q : a + 0 ≡ a = omega arith in rw (q, append-nil (take a o)) (take-append-drop a o)

-- a copy
pub over_paste : (o : List ℕ) (to : ℕ) (s : List ℕ) → paste o to s (length s) ≡ over o to s
unfolding over
over_paste o to s = paste_all o to s (length s) refl ∙ sym (append_assoc (take to o) s (drop (to + length s) o))

-- a part that is replaced
pub over_part : (o l l' : List ℕ) (a k : ℕ) → k ≡ length l → l' ≡ l → put_mid a k o l' ≡ over o a l
unfolding over
over_part o l l' a k n e = rw (e, n) (sym (append_assoc (take a o) l (drop (length l) (drop a o))) ∙ ap (λ (t : List ℕ). take a o ++ l ++ t) (drop-drop (length l) a o))

-- the sizes, and the records laid one after the other
pub total_none : (size : List ℕ) → total size 0 ≡ 0
unfolding total
total_none size = refl

pub total_more : (size : List ℕ) (k : ℕ) → total size (k + 1) ≡ total size k + get_or size k 0
unfolding total
total_more size k = rw (add-one k) refl

pub total_rises : (size : List ℕ) (k d : ℕ) → total size k ≤ total size (k + d)
unfolding total
total_rises size k zero = let q : k + 0 ≡ k = omega arith in rw q (omega arith)
total_rises size k (suc d) = let q : k + suc d ≡ suc (k + d) = omega arith in rw q (omega (arith, total_rises size k d))

module _ (s : List ℕ) (place size : List ℕ) where
  pub records_none : records_bytes s place size 0 ≡ []
  unfolding records_bytes
  records_none = refl

  pub records_more : (k : ℕ) → records_bytes s place size (k + 1) ≡ records_bytes s place size k ++ slice (get_or place k 0) (get_or place k 0 + get_or size k 0) s
  unfolding records_bytes
  records_more k = rw (add-one k) refl

  pub records_size : (k : ℕ) → ((j : ℕ) → j < k → get_or place j 0 + get_or size j 0 ≤ length s) → length (records_bytes s place size k) ≡ total size k
  unfolding records_bytes total
  records_size zero inside = refl
  records_size (suc k) inside =
      length-append (records_bytes s place size k) (slice (get_or place k 0) (get_or place k 0 + get_or size k 0) s)
      ∙ ap₂ (λ (a : ℕ) (b : ℕ). a + b) (records_size k (λ j l. inside j (omega arith))) (slice_size s (get_or place k 0) (get_or size k 0) (inside k (omega arith)))

-- one record more
pub records_over : (s place size o out : List ℕ) (start count k here : ℕ) → Stand s count place size → k < count → start + total size count ≤ length o → here ≡ start + total size k → out ≡ over o start (records_bytes s place size k) → over out here (slice (get_or place k 0) (get_or place k 0 + get_or size k 0) s) ≡ over o start (records_bytes s place size (k + 1))
records_over s place size o out start count k here st l fits e q =
    let n : length (records_bytes s place size k) ≡ total size k = records_size s place size k (λ j m. st.inside j (omega arith)) in
    let d = count - k in
    let c : k + d ≡ count = omega arith in
    let rises : total size k ≤ total size count = subst (λ (j : ℕ). total size k ≤ total size j) c (total_rises size k d) in
    let at : here ≡ start + length (records_bytes s place size k) = omega arith in
    rw (q, at, records_more s place size k) (over_over o start (records_bytes s place size k) (omega arith) (slice (get_or place k 0) (get_or place k 0 + get_or size k 0) s))

-- room for the next record
pub records_room : (size : List ℕ) (start count k len : ℕ) → k < count → start + total size count ≤ len → start + total size k + get_or size k 0 ≤ len
records_room size start count k len l fits =
    let d = count - (k + 1) in
    let c : k + 1 + d ≡ count = omega arith in
    let rises : total size (k + 1) ≤ total size count = subst (λ (j : ℕ). total size (k + 1) ≤ total size j) c (total_rises size (k + 1) d) in
    omega (arith, total_more size k)

-- the header
pub header_kept : (h o : List ℕ) (count : ℕ) → count ≡ 0 → over o 0 h ≡ over o 0 (recounted h count)
unfolding recounted
header_kept h o count z = rw (eq-eqb count 0 z) refl

pub header_recounted : (h o : List ℕ) (count : ℕ) → (count ≡ 0 → ⊥) → 2 ≤ length h → length h ≤ length o → over (over o 0 (take (length h - 2) h)) (length h - 2) (two_of count) ≡ over o 0 (recounted h count)
unfolding recounted
header_recounted h o count d two m =
    let n : length (take (length h - 2) h) ≡ length h - 2 = length-take-le (length h - 2) h (omega arith) in
    let a : length h - 2 ≡ 0 + length (take (length h - 2) h) = omega arith in
    rw (ne_eqb count 0 d) (ap (λ (i : ℕ). over (over o 0 (take (length h - 2) h)) i (two_of count)) a ∙ over_over o 0 (take (length h - 2) h) (omega arith) (two_of count))

-- the whole
pub lay_whole : (o h m r : List ℕ) (front start : ℕ) → length h ≡ front → length (h ++ m) ≡ start → start + length r ≤ length o → over (over (over o 0 h) front m) start r ≡ over o 0 (h ++ m ++ r)
lay_whole o h m r front start p q l =
    let a : front ≡ 0 + length h = omega arith in
    let b : start ≡ 0 + length (h ++ m) = omega arith in
    let c : length (h ++ m) ≡ length h + length m = length-append h m in
    ap (λ (x : List ℕ). over x start r) (ap (λ (i : ℕ). over (over o 0 h) i m) a ∙ over_over o 0 h (omega arith) m)
    ∙ (ap (λ (i : ℕ). over (over o 0 (h ++ m)) i r) b ∙ over_over o 0 (h ++ m) (omega arith) r)

pub recounted_length : (header : List ℕ) (count : ℕ) → (0 < count → 2 ≤ length header) → length (recounted header count) ≡ length header
unfolding recounted
recounted_length header count two = go (eqb count 0) refl
  where
    go : (b : Bool) → eqb count 0 ≡ b → length (pick b header (take (length header - 2) header ++ two_of count)) ≡ length header
    go true e = refl
    go false e =
        let d : (count ≡ 0 → ⊥) = eqb-false count 0 e in
        let t : 2 ≤ length header = two (omega arith) in
        length-append (take (length header - 2) header) (two_of count) ∙ omega (arith, length-take-le (length header - 2) header (omega arith))

pub laid_all : (s place size o o₁ o₂ o₃ : List ℕ) (front start count : ℕ) → Stand s count place size → front ≤ start → start ≤ length s → start + total size count ≤ length o → (0 < count → 2 ≤ front) → o₁ ≡ over o 0 (recounted (take front s) count) → o₂ ≡ over o₁ front (take (start - front) (drop front s)) → o₃ ≡ over o₂ start (records_bytes s place size count) → o₃ ≡ over o 0 (recounted (take front s) count ++ slice front start s ++ records_bytes s place size count)
laid_all s place size o o₁ o₂ o₃ front start count st l m fits two e₁ e₂ e₃ =
    let h = recounted (take front s) count in
    let c = slice front start s in
    let r = records_bytes s place size count in
    let q : front + (start - front) ≡ start = omega arith in
    let n : length (take front s) ≡ front = length-take-le front s (omega arith) in
    let p₁ : length h ≡ front = recounted_length (take front s) count (λ some. omega (arith, two some)) ∙ n in
    let p₂ : length (h ++ c) ≡ start = length-append h c ∙ omega (arith, length-slice front start s m) in
    let p₃ : length r ≡ total size count = records_size s place size count st.inside in
    let t : take (start - front) (drop front s) ≡ c = sym (slice_take s front (start - front)) ∙ ap (λ (i : ℕ). slice front i s) q in
    let a : o₂ ≡ over (over o 0 h) front c = e₂ ∙ ap₂ (λ (x : List ℕ) (y : List ℕ). over x front y) e₁ t in
    e₃ ∙ (ap (λ (x : List ℕ). over x start r) a ∙ lay_whole o h c r front start p₁ p₂ (omega arith))
