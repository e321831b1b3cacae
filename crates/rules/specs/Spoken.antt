-- Runs that name a reader or a day (No. 9, No. 12): which statements count, the book spoken of, and the outcome.
use Rattle.std.specs.Prelude.{ℕ, ◌/◌, ◌%◌, ◌^◌, Bool, true, ◌&&◌, ◌||◌, List, length, get_or, leb, ltb, eqb}
use Rattle.book.specs.Read.{pick}
use Rattle.book.specs.Book.{Book, with_statements, Decoded, refused, accepted, decode}
use Rattle.book.specs.declared.statement.Statement.{Statement}
use Rattle.rules.specs.Brought.{from}
use Rattle.rules.specs.Lists.{only}
use Rattle.rules.specs.Ends.{Outcome, outcome_of}

-- whom a run is for: no one in particular, or a reader by number with the table that is lent for it
pub data Who : Type 0 where
  whoever : Who
  one : ℕ → List ℕ → Who

-- on which day: on none in particular, or on one by its number
pub data Day : Type 0 where
  always : Day
  on : ℕ → Day

-- what a run names
pub record Reader : Type 0 where
  pub who : Who
  pub day : Day

-- nothing; a reader; a day; a reader and a day
abbrev pub anyone : Reader
anyone = record { who = whoever; day = always }

abbrev pub reader : ℕ → List ℕ → Reader
reader r table = record { who = one r table; day = always }

abbrev pub anyone_on : ℕ → Reader
anyone_on d = record { who = whoever; day = on d }

abbrev pub reader_on : ℕ → List ℕ → ℕ → Reader
reader_on r table d = record { who = one r table; day = on d }

-- bit r of word s says that reader r may read source s; source 0 is open to all, whatever its word
unfoldable pub readable : ℕ → List ℕ → Statement → Bool
readable r table x = eqb x.source 0 || eqb (get_or table x.source 0 / 2 ^ r % 2) 1

-- where no reader is named, all are
abbrev pub readable_by : Who → Statement → Bool
readable_by whoever x = true
readable_by (one r table) x = readable r table x

-- both days belong to the period
unfoldable pub in_force_lem : ℕ → Statement → Bool
in_force_lem d x = leb x.first d && leb d x.last

-- where no day is named, all are
abbrev pub in_force_on : Day → Statement → Bool
in_force_on always x = true
in_force_on (on d) x = in_force_lem d x

-- whether a statement counts in a run, and those of a list that do, in order: the readable ones among those in force
unfoldable pub heeded : Reader → Statement → Bool
heeded r x = in_force_on r.day x && readable_by r.who x

unfoldable pub heedings : Reader → List Statement → List Statement
heedings r xs = from xs λ x. only (heeded r x) x

-- the readable ones of a list, whatever their days
unfoldable pub readables : Who → List Statement → List Statement
readables w xs = from xs λ x. only (readable_by w x) x

-- THE BOOK SPOKEN OF: the same counts but that of the statements, the same concepts, the statements that count, in order
abbrev pub spoken : Reader → Book → Book
spoken r B = with_statements B (heedings r B.statements)

abbrev pub spoken_of : Reader → Decoded → Decoded
spoken_of r (refused n) = refused n
spoken_of r (accepted B) = accepted (spoken r B)

-- refusals 14 and 15, in that order, before those of what was read; a day has none
abbrev pub admitted : Who → Decoded → Decoded
admitted whoever d = d
admitted (one r table) d = pick (ltb 31 r) (refused 14) (pick (eqb (length table) 1024) d (refused 15))

-- What a run works on. The book is decoded whole, so that a fault in a statement that does not count refuses it all the same.
unfoldable pub decode_for : Reader → List ℕ → Decoded
decode_for r s = admitted r.who (spoken_of r (decode s))

-- THE OUTCOME of a run that names a reader, a day, both or neither: 1 to 3 come first, then 14 and 15, then the book's own faults
abbrev pub outcome_for : Reader → List ℕ → ℕ → List ℕ → List ℕ → List ℕ → Outcome
outcome_for r s = outcome_of (decode_for r s)
