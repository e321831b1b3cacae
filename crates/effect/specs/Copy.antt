-- A copy of a book with one statement more (No. 13), as bytes and as a book.
use Rattle.std.specs.Prelude.{ℕ, ◌+◌, List, [], ◌∷◌, ◌++◌, drop, ltb}
use Rattle.book.specs.declared.header.Counts.{Counts}
use Rattle.book.specs.declared.statement.Statement.{Statement}
use Rattle.book.specs.Read.{pick, Read, value, refusal, Parser, ◌>>=◌, ◌>>◌, give}
use Rattle.book.specs.Header.{counting, header}
use Rattle.book.specs.Statement.{statement}
use Rattle.book.specs.Bytes.{header_bytes}
use Rattle.book.specs.Book.{Book, with_statements, at_end, Decoded, accepted, refused}

-- the counts with one statement more
abbrev pub raised : Counts → Counts
raised h = counting h (h.statements + 1)

-- The header written again with the raised count, what stands behind the header, and the record behind that. A book without statements has
-- no count of them: its copy has, so that its header is two bytes longer and has bit 4. Bytes without a header have no copy of their own, and
-- none is run.
abbrev pub copy_of : Read Counts → List ℕ → List ℕ → List ℕ
copy_of (value h at) s x = header_bytes (raised h) ++ (drop at s ++ x)
copy_of (refusal n) s x = s ++ x

-- THE COPY, as bytes: of the book s with the record x appended
unfoldable pub copied : List ℕ → List ℕ → List ℕ
copied s x = copy_of (header s 0) s x

-- a record by itself with nothing behind it: its own refusal (4 for fewer bytes, and 5, 7, 8, 9 and 16), then 10 for more bytes
unfoldable pub one_record : Counts → Parser Statement
one_record h = do
  y ← statement h
  at_end 10
  give y

-- the book with a statement behind its others
abbrev pub larger : Book → Statement → Book
larger B y = with_statements B (B.statements ++ (y ∷ []))

abbrev pub entered : Book → Read Statement → Decoded
entered B (value y next) = accepted (larger B y)
entered B (refusal n) = refused n

-- WHAT THE COPY IS, as a book (copied_is): 6 where it would be the 4,097th statement, before any fault of the record, as the header comes
-- first; else the record's refusal; else the book with the statement appended
unfoldable pub with_record : Book → List ℕ → Decoded
with_record B x = pick (ltb B.counts.statements 4096) (entered B (one_record B.counts x 0)) (refused 6)
