-- The laws of laying out a book by value.
use Prim.Native.Nat.{ℕ, suc, ◌+◌, ◌-◌, ◌/◌, ◌%◌, ◌≤◌, ◌<◌}
use native.Mathlib.Omega.{arith}
use mathlib.Core.Path.{◌≡◌, refl, sym, ap, ◌∙◌}
use mathlib.Core.List.{List, [], ◌∷◌, ◌++◌, append_assoc, append-nil}
use lib.ListN.{length, replicate, set, length-append}
use borrow.Author.Tests.{eq-eqb, ne_eqb}
use Rattle.small.specs.declared.laid.SmallBook.{SmallBook}
use Rattle.book.specs.declared.statement.Statement.{Statement}
use Rattle.book.specs.Bytes.{header_bytes, statement_bytes, statements_bytes}
use Rattle.small.specs.Statements.{small_counts}
use Rattle.small.specs.Books.{atomic_bytes, book_of}
use Rattle.small.specs.Laying.{laid, added, field_bytes}

-- one run of bytes behind another is both as one
pub added_append : (book : SmallBook) (l m : List ℕ) → added (added book l) m ≡ added book (l ++ m)
unfolding added
added_append book [] m = refl
added_append book (b ∷ l) m = added_append (record { bytes = set book.bytes book.length b; length = book.length + 1 }) l m

pub added_length : (book : SmallBook) (l : List ℕ) → (added book l).length ≡ book.length + length l
unfolding added
added_length book [] = omega arith
added_length book (b ∷ l) = added_length (record { bytes = set book.bytes book.length b; length = book.length + 1 }) l ∙ omega arith

-- on a book by value, they stand behind its bytes
set_at : (l r : List ℕ) (x b : ℕ) → set (l ++ (x ∷ r)) (length l) b ≡ l ++ (b ∷ r)
set_at [] r x b = refl
set_at (y ∷ l) r x b = ap (λ (k : List ℕ). y ∷ k) (set_at l r x b)

laid_push : (l : List ℕ) (b : ℕ) → length l < 37 → record { bytes = set (laid l).bytes (length l) b; length = length l + 1 } ≡ laid (l ++ (b ∷ []))
laid_push l b h =
    let more : length (l ++ (b ∷ [])) ≡ length l + 1 = length-append l (b ∷ []) in
    let room : 37 - length l ≡ suc (37 - (length l + 1)) = omega arith in
    let zeros = replicate {A = ℕ} (37 - (length l + 1)) 0 in
    let bytes : set (laid l).bytes (length l) b ≡ (l ++ (b ∷ [])) ++ zeros = rw room (set_at l zeros 0 b ∙ sym (append_assoc l (b ∷ []) zeros)) in
    rw (more, bytes) refl

pub added_laid : (l m : List ℕ) → length l + length m ≤ 37 → added (laid l) m ≡ laid (l ++ m)
unfolding added
added_laid l [] h = rw append-nil refl
added_laid l (b ∷ m) h =
    let more : length (l ++ (b ∷ [])) ≡ length l + 1 = length-append l (b ∷ []) in
    ap (λ (k : SmallBook). added k m) (laid_push l b (omega arith)) ∙ added_laid (l ++ (b ∷ [])) m (omega arith) ∙ ap laid (append_assoc l (b ∷ []) m)

-- the field of the lowest bit: none where it is not set
pub field_absent : (map values : ℕ) → map % 2 ≡ 0 → field_bytes 1 map values ≡ []
unfolding field_bytes
field_absent map values e = rw (eq-eqb _ _ e) refl

pub field_present : (map values : ℕ) → (map % 2 ≡ 0 → ⊥) → field_bytes 1 map values ≡ values % 2 ∷ 0 ∷ []
unfolding field_bytes
field_present map values d = rw (ne_eqb _ _ d) refl

-- what is left to do after k bits: the fields of the others, for which there is room
abbrev pub Left : SmallBook → SmallBook → ℕ → ℕ → ℕ → Type 0
Left whole book k map values = (added book (field_bytes (8 - k) map values) ≡ whole) × (book.length + length (field_bytes (8 - k) map values) ≤ 37)

module _ (whole book : SmallBook) (k map values : ℕ) (more : k < 8) (left : Left whole book k map values) where
  abbrev first : List ℕ
  first = field_bytes 1 map values

  abbrev rest : List ℕ
  rest = field_bytes (8 - (k + 1)) (map / 2) (values / 2)

  both : field_bytes (8 - k) map values ≡ first ++ rest
  unfolding field_bytes
  both = let n : 8 - k ≡ suc (8 - (k + 1)) = omega arith in rw (n, append-nil) refl

  sizes : length (field_bytes (8 - k) map values) ≡ length first + length rest
  sizes = ap length both ∙ length-append first rest

  pub left_room : book.length + length first ≤ 37
  left_room = omega (arith, sizes, left.1)

  pub left_next : Left whole (added book first) (k + 1) (map / 2) (values / 2)
  left_next = (added_append book first rest ∙ ap (added book) (sym both) ∙ left.0, omega (arith, sizes, left.1, added_length book first))

-- a whole book: its front, and the statements behind it
abbrev pub front : ℕ → List ℕ
front n = header_bytes (small_counts n) ++ atomic_bytes

pub laid_one : (x : Statement) → length (statement_bytes x) ≤ 11 → added (laid (front 1)) (statement_bytes x) ≡ laid (book_of (x ∷ []))
unfolding header_bytes statements_bytes book_of
laid_one x l = added_laid (front 1) (statement_bytes x) (omega arith) ∙ ap (λ (m : List ℕ). laid (front 1 ++ m)) (sym (append-nil (statement_bytes x)))

pub laid_two : (x y : Statement) → length (statement_bytes x) ≤ 11 → length (statement_bytes y) ≤ 11 → added (added (laid (front 2)) (statement_bytes x)) (statement_bytes y) ≡ laid (book_of (x ∷ y ∷ []))
unfolding header_bytes statements_bytes book_of
laid_two x y l m =
    let n = length-append (statement_bytes x) (statement_bytes y) in
    added_append (laid (front 2)) (statement_bytes x) (statement_bytes y)
    ∙ added_laid (front 2) (statement_bytes x ++ statement_bytes y) (omega arith)
    ∙ ap (λ (m : List ℕ). laid (front 2 ++ (statement_bytes x ++ m))) (sym (append-nil (statement_bytes y)))
