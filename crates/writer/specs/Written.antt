-- The bytes of a cleaned book, and what the writer answers and leaves in the lent bytes.
use Rattle.std.specs.Prelude.{ℕ, List, [], ◌++◌, length, drop, ltb, Result, Ok, Err}
use Rattle.book.specs.Read.{pick}
use Rattle.book.specs.Refusal.{number}
use Rattle.book.specs.declared.refusal.Refusal.{Refusal}
use Rattle.book.specs.Book.{Book, decode, restated}
use Rattle.rules.specs.Ends.{on_decoded}
use Rattle.writer.specs.Kept.{kept}

-- the statements that stay, under a header with their number and behind the concept records as they stand
unfoldable pub written_of : List ℕ → Book → List ℕ
written_of s B = restated s B (kept B.statements)

-- THE WRITTEN BOOK of an accepted one
unfoldable pub written : List ℕ → List ℕ
written s = on_decoded (decode s) (λ n. []) λ B. written_of s B

-- the length of the written book, or the number of a refusal
pub data Answer : Type 0 where
  Written : ℕ → Answer
  Refused : ℕ → Answer

abbrev pub as_answer : Result ℕ Refusal → Answer
as_answer (Ok n) = Written n
as_answer (Err e) = Refused (number e)

-- what the writer comes to: its answer, and the lent bytes at exit
pub record Writes : Type 0 where
  pub answer : Answer
  pub out : List ℕ

-- laid out: the length, and the bytes behind it as they were; refusal 12 where there are too few, and then all as they were
abbrev pub laid_out : List ℕ → List ℕ → Writes
laid_out w out =
    pick (ltb (length out) (length w)) (record { answer = Refused 12; out = out })
    (record { answer = Written (length w); out = w ++ drop (length w) out })

-- WHAT THE WRITER COMES TO on bytes s and lent bytes out: the book's own refusal and nothing touched, or the written book laid out
unfoldable pub writes : List ℕ → List ℕ → Writes
writes s out = on_decoded (decode s) (λ n. record { answer = Refused n; out = out }) λ B. laid_out (written_of s B) out
