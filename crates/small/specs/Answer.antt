-- What the functions hand back of an entry of the list.
use Rattle.std.specs.Prelude.{ℕ, List, ◌++◌, length, drop, leb, Option, Some, None}
use Rattle.book.specs.Read.{pick}
use Rattle.small.specs.declared.laid.SmallBook.{SmallBook}
use Rattle.small.specs.Laying.{laid}
use Rattle.small.specs.Books.{Entry, there, none}

-- by value: the book from the first byte on and 0 behind it, with its length; or none
abbrev pub by_value : Entry → Option SmallBook
by_value (there s) = Some (laid s)
by_value none = None

-- into lent bytes: the length of the book, 0 where there is none
abbrev pub length_of : Entry → ℕ
length_of (there s) = length s
length_of none = 0

-- and what the lent bytes are then: the book at their front if all of it fits, else what they were
abbrev pub lent_of : Entry → List ℕ → List ℕ
lent_of (there s) out = pick (leb (length s) (length out)) (s ++ drop (length s) out) out
lent_of none out = out
