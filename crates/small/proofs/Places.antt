-- Which statements the book at a position of the list has.
use Prim.Native.Nat.{ℕ, zero, suc, ◌+◌, ◌*◌, ◌-◌, ◌/◌, ◌%◌, ◌≤◌, ◌<◌}
use native.Mathlib.Omega.{arith}
use native.Mathlib.Decide.{dec_lt, ℕ_discrete}
use native.Mathlib.Numerals.{add-one}
use mathlib.Core.Path.{◌≡◌, refl, sym, ap, ◌∙◌, subst}
use mathlib.Core.List.{List, [], ◌∷◌, ◌++◌}
use lib.ListN.{length, get_or, length-append}
use Rattle.book.specs.declared.statement.Statement.{Statement}
use Rattle.book.specs.Bytes.{header_bytes, statement_bytes, statements_bytes}
use Rattle.small.specs.Statements.{each, small_statements, spare, statement_at_lem}
use Rattle.small.specs.Books.{book_of, small_books, there, none, entry_at}
use Rattle.small.proofs.Statements.{statements_count, statement_at_short}

-- the entries of two lists, one behind the other
entry_front : (l m : List (List ℕ)) (p : ℕ) → p < length l → entry_at (l ++ m) p ≡ entry_at l p
unfolding entry_at
entry_front [] m p h = absurd (omega arith)
entry_front (s ∷ l) m zero h = refl
entry_front (s ∷ l) m (suc p) h = entry_front l m p (omega arith)

entry_behind : (l m : List (List ℕ)) (p : ℕ) → entry_at (l ++ m) (length l + p) ≡ entry_at m p
unfolding entry_at
entry_behind [] m p = ap (entry_at m) (omega arith)
entry_behind (s ∷ l) m p = let q : suc (length l) + p ≡ suc (length l + p) = omega arith in rw q (entry_behind l m p)

entry_none : (l : List (List ℕ)) (p : ℕ) → length l ≤ p → entry_at l p ≡ none
unfolding entry_at
entry_none [] p h = refl
entry_none (s ∷ l) zero h = absurd (omega arith)
entry_none (s ∷ l) (suc p) h = entry_none l p (omega arith)

-- one book for each statement
module _ (f : Statement → List ℕ) where
  row_length : (ys : List Statement) → length (each ys (λ y. f y ∷ [])) ≡ length ys
  row_length [] = refl
  row_length (y ∷ ys) = ap suc (row_length ys)

  row_entry : (d : Statement) (ys : List Statement) (i : ℕ) → i < length ys → entry_at (each ys (λ y. f y ∷ [])) i ≡ there (f (get_or ys i d))
  unfolding entry_at
  row_entry d [] i l = absurd (omega arith)
  row_entry d (y ∷ ys) zero l = refl
  row_entry d (y ∷ ys) (suc i) l = row_entry d ys i (omega arith)

-- one book for each two statements
module _ (g : Statement → Statement → List ℕ) (ys : List Statement) (size : length ys ≡ 73) where
  abbrev row : Statement → List (List ℕ)
  row x = each ys λ y. g x y ∷ []

  row_size : (x : Statement) → length (row x) ≡ 73
  row_size x = row_length (g x) ys ∙ size

  grid_length : (xs : List Statement) → length (each xs row) ≡ length xs * 73
  grid_length [] = refl
  grid_length (x ∷ xs) = length-append (row x) (each xs row) ∙ omega (arith, row_size x, grid_length xs)

  grid_entry : (d : Statement) (xs : List Statement) (i j : ℕ) → i < length xs → j < 73 → entry_at (each xs row) (i * 73 + j) ≡ there (g (get_or xs i d) (get_or ys j d))
  grid_entry d [] i j a b = absurd (omega arith)
  grid_entry d (x ∷ xs) zero j a b =
      let q : 0 * 73 + j ≡ j = omega arith in
      rw q (entry_front (row x) (each xs row) j (omega (arith, row_size x)) ∙ row_entry (g x) d ys j (omega arith))
  grid_entry d (x ∷ xs) (suc i) j a b =
      let q : suc i * 73 + j ≡ length (row x) + (i * 73 + j) = omega (arith, row_size x) in
      rw q (entry_behind (row x) (each xs row) (i * 73 + j) ∙ grid_entry d xs i j (omega arith) b)

abbrev ones : List (List ℕ)
ones = each small_statements λ x. book_of (x ∷ []) ∷ []

abbrev twos : List (List ℕ)
twos = each small_statements λ x. each small_statements λ y. book_of (x ∷ y ∷ []) ∷ []

ones_length : length ones ≡ 73
ones_length = row_length (λ x. book_of (x ∷ [])) small_statements ∙ statements_count

-- ITS LENGTH: 1, 73 and 5,329 books
pub books_count : length small_books ≡ 1 + 73 + 5329
unfolding small_books
books_count = ap suc (length-append ones twos ∙ omega (arith, ones_length, statements_count, grid_length (λ x y. book_of (x ∷ y ∷ [])) small_statements statements_count small_statements))

-- the statements of the book at a position
pub data Stands : ℕ → List Statement → Type 0 where
  empty : Stands 0 []
  one : {i : ℕ} → i < 73 → Stands (i + 1) (statement_at_lem i ∷ [])
  two : {i j : ℕ} → i < 73 → j < 73 → Stands (74 + (i * 73 + j)) (statement_at_lem i ∷ statement_at_lem j ∷ [])

pub stands_entry : (p : ℕ) (xs : List Statement) → Stands p xs → entry_at small_books p ≡ there (book_of xs)
unfolding small_books entry_at
stands_entry p xs empty = refl
stands_entry p xs (one {i = i} l) =
    rw add-one (entry_front ones twos i (omega (arith, ones_length)) ∙ row_entry (λ x. book_of (x ∷ [])) spare small_statements i (omega (arith, statements_count)))
stands_entry p xs (two {i = i} {j = j} l m) =
    let q : 74 + (i * 73 + j) ≡ suc (length ones + (i * 73 + j)) = omega (arith, ones_length) in
    rw q (entry_behind ones twos (i * 73 + j) ∙ grid_entry (λ x y. book_of (x ∷ y ∷ [])) small_statements statements_count spare small_statements i j (omega (arith, statements_count)) m)

-- each position of the list, by its number
module _ (p : ℕ) where
  pub stands_one : (p ≡ 0 → ⊥) → p ≤ 73 → Stands p (statement_at_lem (p - 1) ∷ [])
  stands_one d l = let q : p - 1 + 1 ≡ p = omega arith in subst (λ (n : ℕ). Stands n (statement_at_lem (p - 1) ∷ [])) q (one (omega arith))

  pub stands_two : 73 < p → p < 5403 → Stands p (statement_at_lem ((p - 74) / 73) ∷ statement_at_lem ((p - 74) % 73) ∷ [])
  stands_two l m =
      let q : 74 + ((p - 74) / 73 * 73 + (p - 74) % 73) ≡ p = omega arith in
      subst (λ (n : ℕ). Stands n (statement_at_lem ((p - 74) / 73) ∷ statement_at_lem ((p - 74) % 73) ∷ [])) q (two (omega arith) (omega arith))

  pub stands_at : p < 5403 → (xs : List Statement) × Stands p xs
  stands_at l = go (ℕ_discrete p 0) (dec_lt 73 p)
    where
      go : Dec (p ≡ 0) → Dec (73 < p) → (xs : List Statement) × Stands p xs
      go (yes e) b = ([], subst (λ (n : ℕ). Stands n []) (sym e) empty)
      go (no d) (no b) = (_, stands_one d (omega arith))
      go (no d) (yes b) = (_, stands_two b l)

  pub past_none : 5403 ≤ p → entry_at small_books p ≡ none
  past_none l = entry_none small_books p (omega (arith, books_count))

-- what the list has at a position is the book of the statements there
pub entry_stands : (p : ℕ) (s : List ℕ) → entry_at small_books p ≡ there s → (xs : List Statement) × Stands p xs × (book_of xs ≡ s)
entry_stands p s e = go (dec_lt p 5403)
  where
    go : Dec (p < 5403) → (xs : List Statement) × Stands p xs × (book_of xs ≡ s)
    go (yes l) = let w = stands_at p l in (w.0, w.1, let q : there (book_of w.0) ≡ there s = sym (stands_entry p w.0 w.1) ∙ e in cc)
    go (no d) = let q : none ≡ there s = sym (past_none p (omega arith)) ∙ e in absurd (let o : ◌≡◌ {A = ℕ} 0 1 = cc in omega arith)

-- it has at most 37 bytes
pub stands_short : (p : ℕ) (xs : List Statement) → Stands p xs → length (book_of xs) ≤ 37
unfolding book_of header_bytes statements_bytes
stands_short p xs empty = omega arith
stands_short p xs (one {i = i} l) = omega (arith, length-append (statement_bytes (statement_at_lem i)) [], statement_at_short i l)
stands_short p xs (two {i = i} {j = j} l m) =
    let x = statement_bytes (statement_at_lem i) in
    let y = statement_bytes (statement_at_lem j) in
    omega (arith, length-append x (y ++ []), length-append y [], statement_at_short i l, statement_at_short j m)

pub entry_short : (p : ℕ) (s : List ℕ) → entry_at small_books p ≡ there s → length s ≤ 37
entry_short p s e = let w = entry_stands p s e in subst (λ (t : List ℕ). length t ≤ 37) w.2 (stands_short p w.0 w.1)
