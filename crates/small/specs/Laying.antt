-- How a book is laid out by value, byte after byte; and the table of statements, a number each.
use Rattle.std.specs.Prelude.{ℕ, zero, suc, ◌+◌, ◌*◌, ◌-◌, ◌/◌, ◌%◌, List, [], ◌∷◌, ◌++◌, length, replicate, set, eqb}
use Rattle.book.specs.Read.{pick}
use Rattle.book.specs.declared.statement.Statement.{Statement}
use Rattle.book.specs.Bytes.{Place, gap, put, map_of, form_of}
use Rattle.small.specs.declared.laid.SmallBook.{SmallBook}

-- a book by value: its bytes, and 0 behind them
abbrev pub laid : List ℕ → SmallBook
laid l = record { bytes = l ++ replicate (37 - length l) 0; length = length l }

-- these bytes behind the others
unfoldable pub added : SmallBook → List ℕ → SmallBook
added book [] = book
added book (b ∷ l) = added (record { bytes = set book.bytes book.length b; length = book.length + 1 }) l

-- The fields of n bits of a map: two bytes for a bit that is set. A value is 0 or 1, and `values` has it at the map's bit.
unfoldable pub field_bytes : ℕ → ℕ → ℕ → List ℕ
field_bytes zero map values = []
field_bytes (suc n) map values = pick (eqb (map % 2) 0) [] (values % 2 ∷ 0 ∷ []) ++ field_bytes n (map / 2) (values / 2)

-- A row of the table: kind, map and values, a byte each; and what it stands for. No statement has a source or days.
abbrev pub values_of : List Place → ℕ
values_of [] = 0
values_of (gap ∷ ps) = 2 * values_of ps
values_of (put v ∷ ps) = 2 * values_of ps + v

unfoldable pub row_of : Statement → ℕ
row_of x =
    let f = form_of x.body in
    65536 * f.kind + 256 * map_of f.places + values_of f.places

unfoldable pub row_bytes : ℕ → List ℕ
row_bytes row = row / 65536 % 256 ∷ row / 256 % 256 ∷ 0 ∷ field_bytes 8 (row / 256 % 256) (row % 256)
