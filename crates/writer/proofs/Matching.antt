-- Two records of a book are alike exactly where their statements are equal.
use Prim.Native.Nat.{ℕ, suc, ◌+◌, ◌-◌, ◌≤◌, ◌<◌}
use native.Mathlib.Omega.{arith}
use mathlib.Core.Path.{◌≡◌, refl, sym, ap, ap₂, ◌∙◌}
use mathlib.Core.Bool.{Bool, true}
use mathlib.Core.List.{List, [], ◌∷◌}
use lib.ListN.{length, get_or, take, drop, length-drop}
use lib.Seq.{length-take-le, get_or-drop}
use lib.Dec.{eqb}
use lib.Pointwise.{pointwise}
use Rattle.std.specs.Bool.{Decides}
use Rattle.std.proofs.lemmas.List.{get_or-take}
use Rattle.std.proofs.lemmas.Bool.Decides.{Decides-eqb}
use Rattle.std.proofs.lemmas.Slice.Eq.{slice_eq-Decides}
use Rattle.book.specs.declared.header.Counts.{Counts}
use Rattle.book.specs.declared.statement.Statement.{Statement}
use Rattle.book.specs.Read.{value}
use Rattle.book.specs.Header.{Limits}
use Rattle.book.specs.Statement.{statement}
use Rattle.book.specs.Bytes.{Bytes, Has, statement_bytes}
use Rattle.book.proofs.Parsing.{same_value}
use Rattle.book.proofs.statement.Laws.{statement_within}
use Rattle.book.proofs.Bytes.{has_at, Laid, statement_laid, statement_read}
use Rattle.writer.specs.Record.{Alike, Matched}

-- from entry by entry
has_of : (s l : List ℕ) (at : ℕ) → at + length l ≤ length s → ((i : ℕ) → i < length l → get_or s (at + i) 0 ≡ get_or l i 0) → Has s at l
has_of s [] at r h = tt
has_of s (b ∷ l) at r h =
    let z : at + 0 ≡ at = omega arith in
    let first : get_or s at 0 ≡ b = (rw z at (h 0 (omega arith))) in
    let later : (i : ℕ) → i < length l → get_or s (at + 1 + i) 0 ≡ get_or l i 0 = (λ i m. let q : at + suc i ≡ at + 1 + i = omega arith in rw q at (h (suc i) (omega arith))) in
    (omega arith, first, has_of s l (at + 1) (omega arith) later)

-- two records of a book: alike exactly where the statements are equal
module _ (s : List ℕ) (bytes : Bytes s) (h : Counts) (lim : Limits h) (a b m n : ℕ) (x y : Statement) (rx : statement h s a ≡ value x (a + m)) (ry : statement h s b ≡ value y (b + n)) where
  laid_x : Laid s a (a + m) (statement_bytes x)
  laid_x = statement_read s h a x (a + m) rx

  laid_y : Laid s b (b + n) (statement_bytes y)
  laid_y = statement_read s h b y (b + n) ry

  pub alike_equal : b + n ≤ length s → m ≡ n → Alike s a b n → x ≡ y
  alike_equal inside e al =
      let lx : length (statement_bytes x) ≡ m = omega (arith, laid_x.ends) in
      let has : Has s b (statement_bytes x) = has_of s (statement_bytes x) b (omega arith) (λ i l. sym (al i (omega arith)) ∙ has_at s (statement_bytes x) a (laid_x.has bytes) i l) in
      (same_value x y (b + length (statement_bytes x)) (b + n) (sym (statement_laid h lim s b x (statement_within s h a x (a + m) rx) has) ∙ ry)).0

  pub equal_alike : x ≡ y → (m ≡ n) × Alike s a b n
  equal_alike e =
      let lx : length (statement_bytes x) ≡ m = omega (arith, laid_x.ends) in
      let ly : length (statement_bytes y) ≡ n = omega (arith, laid_y.ends) in
      let l : length (statement_bytes x) ≡ length (statement_bytes y) = ap (λ (z : Statement). length (statement_bytes z)) e in
      (omega arith, λ i k. has_at s (statement_bytes x) a (laid_x.has bytes) i (omega arith) ∙ (ap (λ (z : Statement). get_or (statement_bytes z) i 0) e ∙ sym (has_at s (statement_bytes y) b (laid_y.has bytes) i (omega arith))))

-- two parts of a book compared as lists
equal_reads : (xs ys : List ℕ) → length xs ≡ length ys → ((j : ℕ) → j < length xs → get_or xs j 0 ≡ get_or ys j 0) → xs ≡ ys
equal_reads [] [] e h = refl
equal_reads [] (y ∷ ys) e h = absurd (omega arith)
equal_reads (x ∷ xs) [] e h = absurd (omega arith)
equal_reads (x ∷ xs) (y ∷ ys) e h = ap₂ (λ (z : ℕ) (zs : List ℕ). z ∷ zs) (h 0 (omega arith)) (equal_reads xs ys (omega arith) (λ j l. h (suc j) (omega arith)))

module _ (s : List ℕ) (a m : ℕ) (fits : a + m ≤ length s) where
  abbrev part : List ℕ
  part = take (a + m - a) (drop a s)

  part_length : length part ≡ m
  part_length = length-take-le (a + m - a) (drop a s) (omega (arith, length-drop a s)) ∙ omega arith

  part_at : (j : ℕ) → j < m → get_or part j 0 ≡ get_or s (a + j) 0
  part_at j l = get_or-take (a + m - a) (drop a s) j 0 (omega arith) ∙ get_or-drop a s j 0

pub matched : (s : List ℕ) (a m b n : ℕ) (r : Bool) → a + m ≤ length s → b + n ≤ length s → r ≡ pointwise eqb (take (a + m - a) (drop a s)) (take (b + n - b) (drop b s)) → Matched s a m b n r
matched s a m b n r f g e =
    let d : Decides r (part s a m f ≡ part s b n g) = slice_eq-Decides Decides-eqb (part s a m f) (part s b n g) r e in
    record {
      yes = λ t. (let q : part s a m f ≡ part s b n g = d.0 t in
          (sym (part_length s a m f) ∙ (ap length q ∙ part_length s b n g), λ j l. sym (part_at s a m f j (omega (arith, part_length s a m f, part_length s b n g, ap length q))) ∙ (ap (λ (x : List ℕ). get_or x j 0) q ∙ part_at s b n g j l)));
      no = λ t same al. (let all : r ≡ true = d.1 (equal_reads (part s a m f) (part s b n g) (part_length s a m f ∙ (same ∙ sym (part_length s b n g)))
          (λ j l. part_at s a m f j (omega (arith, part_length s a m f)) ∙ (al j (omega (arith, part_length s a m f)) ∙ sym (part_at s b n g j (omega (arith, part_length s a m f)))))) in
          absurd cc);
    }
