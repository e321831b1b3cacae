-- The small books: which byte strings they are, their order, and their list.
use Rattle.std.specs.Prelude.{ℕ, zero, suc, ◌≤◌, ◌≡◌, Bool, true, false, ◌&&◌, ◌||◌, List, [], ◌∷◌, ◌++◌, length, ltb, eqb}
use Rattle.book.specs.declared.statement.Statement.{Statement}
use Rattle.book.specs.Statement.{bare}
use Rattle.book.specs.Tree.{Atomic}
use Rattle.book.specs.Book.{Book, Decoded, accepted, refused, decode}
use Rattle.book.specs.Bytes.{header_bytes, statements_bytes}
use Rattle.book.specs.Within.{Every}
use Rattle.small.specs.Statements.{small_counts, small_statements, each}

-- The bytes are a small book: accepted, with one class, one role, two individuals, the one concept Atomic 0 and at most two statements, none of
-- which has a source or days.
pub record Small (s : List ℕ) : Type 0 where
  pub book : Book
  pub read : decode s ≡ accepted book
  pub counts : book.counts ≡ small_counts book.counts.statements
  pub few : book.counts.statements ≤ 2
  pub concepts : book.concepts ≡ Atomic 0 ∷ []
  pub unmarked : Every (λ x. x ≡ bare x.body) book.statements

-- how many statements a byte string has as a book
abbrev pub statement_count : Decoded → ℕ
statement_count (accepted b) = b.counts.statements
statement_count (refused n) = 0

-- By bytes: less at the first that differs; the front of a longer list comes before it.
abbrev pub less : List ℕ → List ℕ → Bool
less s [] = false
less [] (b ∷ t) = true
less (a ∷ s) (b ∷ t) = ltb a b || (eqb a b && less s t)

-- fewer statements first, then by bytes
unfoldable pub precedes : List ℕ → List ℕ → Bool
precedes s t =
    let m = statement_count (decode s) in
    let n = statement_count (decode t) in
    ltb m n || (eqb m n && less s t)

-- the concept Atomic 0: kind 2, map 01, class 0
abbrev pub atomic_bytes : List ℕ
atomic_bytes = 2 ∷ 1 ∷ 0 ∷ 0 ∷ []

-- the book that has these statements
unfoldable pub book_of : List Statement → List ℕ
book_of xs = header_bytes (small_counts (length xs)) ++ (atomic_bytes ++ statements_bytes xs)

-- THE LIST: the book of no statement, those of one, those of two
unfoldable pub small_books : List (List ℕ)
small_books =
    (book_of [] ∷ [])
    ++ each small_statements (λ x. book_of (x ∷ []) ∷ [])
    ++ each small_statements (λ x. each small_statements λ y. book_of (x ∷ y ∷ []) ∷ [])

-- the entry at a position, counted from 0; none past the last
pub data Entry : Type 0 where
  there : List ℕ → Entry
  none : Entry

unfoldable pub entry_at : List (List ℕ) → ℕ → Entry
entry_at [] p = none
entry_at (s ∷ l) zero = there s
entry_at (s ∷ l) (suc p) = entry_at l p
