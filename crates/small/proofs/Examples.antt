-- The first book, the first with a statement, and the last, byte by byte.
use Prim.Native.Nat.{ℕ, ◌<◌}
use native.Mathlib.Omega.{arith}
use mathlib.Core.Path.{◌≡◌}
use mathlib.Core.List.{List, [], ◌∷◌, ◌++◌}
use Rattle.book.specs.Role.{role_of_lem}
use Rattle.book.specs.Statement.{axiom_of_lem, path_of_lem}
use Rattle.book.specs.Bytes.{header_bytes, statement_bytes, statements_bytes}
use Rattle.small.specs.Statements.{small_statements}
use Rattle.small.specs.Books.{book_of, small_books, there, entry_at}
use Rattle.small.proofs.Places.{empty, one, two, stands_entry}

first : entry_at small_books 0 ≡ there (0x0F ∷ 1 ∷ 0 ∷ 1 ∷ 0 ∷ 2 ∷ 0 ∷ 1 ∷ 0 ∷ 2 ∷ 1 ∷ 0 ∷ 0 ∷ [])
unfolding book_of header_bytes statements_bytes
first = stands_entry 0 [] empty

-- header and concept of a book with n statements
abbrev front : ℕ → List ℕ
front n = 0x1F ∷ 1 ∷ 0 ∷ 1 ∷ 0 ∷ 2 ∷ 0 ∷ 1 ∷ 0 ∷ n ∷ 0 ∷ 2 ∷ 1 ∷ 0 ∷ 0 ∷ []

-- class 0 under class 0
second : entry_at small_books 1 ≡ there (front 1 ++ (1 ∷ 0x30 ∷ 0 ∷ 0 ∷ 0 ∷ 0 ∷ 0 ∷ []))
unfolding book_of header_bytes statement_bytes statements_bytes small_statements axiom_of_lem path_of_lem role_of_lem
second = let l : 0 < 73 = omega arith in stands_entry 1 _ (one l)

-- that the inverse of role 0 leads 1 to 1, denied twice
last : entry_at small_books 5402 ≡ there (front 2 ++ (16 ∷ 0xC1 ∷ 0 ∷ 1 ∷ 0 ∷ 1 ∷ 0 ∷ 1 ∷ 0 ∷ 16 ∷ 0xC1 ∷ 0 ∷ 1 ∷ 0 ∷ 1 ∷ 0 ∷ 1 ∷ 0 ∷ []))
unfolding book_of header_bytes statement_bytes statements_bytes small_statements axiom_of_lem path_of_lem role_of_lem
last = let l : 72 < 73 = omega arith in stands_entry 5402 _ (two l l)
