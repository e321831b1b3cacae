-- The whole book: header, concepts, statements, and nothing behind them.
use Rattle.std.specs.Prelude.{ℕ, zero, suc, ◌≤◌, ◌<◌, ◌≡◌, List, [], ◌∷◌, ◌++◌, length, get_or, leb, Result, Ok}
use Rattle.std.proofs.Math.Seq.{slice}
use Rattle.book.specs.declared.refusal.Refusal.{Refusal}
use Rattle.book.specs.declared.header.Counts.{Counts}
use Rattle.book.specs.declared.statement.Axiom.{Axiom}
use Rattle.book.specs.declared.statement.Statement.{Statement}
use Rattle.book.specs.Read.{Read, value, refusal, onward, as_read, as_passed, Parser, ◌>>=◌, ◌>>◌, give, unless, several}
use Rattle.book.specs.Field.{passed}
use Rattle.book.specs.Header.{counting, header}
use Rattle.book.specs.Concept.{concept}
use Rattle.book.specs.Statement.{statement, bodies}
use Rattle.book.specs.Tree.{Concept, tree_of}
use Rattle.book.specs.Bytes.{header_bytes, statements_bytes}

pub record Book : Type 0 where
  pub counts : Counts
  pub concepts : List Concept
  pub statements : List Statement

-- what a book says, whose statement it was apart
abbrev pub axioms : Book → List Axiom
axioms b = bodies b.statements

-- the same counts and concepts with other statements, as many as there are
abbrev pub with_statements : Book → List Statement → Book
with_statements b xs = record { counts = counting b.counts (length xs); concepts = b.concepts; statements = xs }

-- items are numbered from 0: the concepts below k, each a tree over those before it
unfoldable pub concepts : Counts → ℕ → Parser (List Concept)
concepts h zero = give []
concepts h (suc k) = do
  ts ← concepts h k
  c ← concept h k
  λ s at. value (ts ++ (tree_of s ts c ∷ [])) at

-- refusal n for bytes behind the offset
abbrev pub at_end : ℕ → Parser (Unit {0})
at_end n s at = unless (leb (length s) at) n s at

unfoldable pub book : Parser Book
book = do
  h ← header
  cs ← concepts h h.concepts
  xs ← several (statement h) h.statements
  at_end 10
  give (record { counts = h; concepts = cs; statements = xs })

pub data Decoded : Type 0 where
  accepted : Book → Decoded
  refused : ℕ → Decoded

abbrev pub decoded : Read Book → Decoded
decoded (value b end) = accepted b
decoded (refusal n) = refused n

-- THE MEANING of a byte string: a book, or the refusal of its first fault from front to back
unfoldable pub decode : List ℕ → Decoded
decode s = decoded (book s 0)

-- where a value ends
abbrev pub behind : {A : Type 0} → Read A → ℕ
behind (value a next) = next
behind (refusal n) = 0

-- where the record of concept k starts; of the first number that is no concept's, where the statements start
unfoldable pub concept_offset : List ℕ → ℕ → ℕ
concept_offset s k = behind (onward (header s 0) λ h at. concepts h k s at)

-- what becomes of a value and the offset behind it, or the same for every refusal
abbrev pub on_value : {A B : Type 0} → Read A → (A → ℕ → B) → B → B
on_value (value a next) go other = go a next
on_value (refusal n) go other = other

-- of the first k concept records, how many stand before the first faulty one; all k where none is faulty
unfoldable pub passed_up_to : Counts → ℕ → List ℕ → ℕ → ℕ
passed_up_to h zero s at = 0
passed_up_to h (suc k) s at = on_value (concepts h (suc k) s at) (λ ts next. suc k) (passed_up_to h k s at)

-- how many concept records of a byte string stand before the first faulty one; none where the header is faulty
unfoldable pub concepts_read : List ℕ → ℕ
concepts_read s = on_value (header s 0) (λ h at. passed_up_to h h.concepts s at) 0

-- the bytes of the concept records
unfoldable pub concept_bytes : List ℕ → Book → List ℕ
concept_bytes s b = slice (concept_offset s 0) (concept_offset s b.counts.concepts) s

-- THE BYTES of a book with other statements: the header with their number, the concept records as they stand, the statements
unfoldable pub restated : List ℕ → Book → List Statement → List ℕ
restated s b xs = header_bytes (counting b.counts (length xs)) ++ (concept_bytes s b ++ statements_bytes xs)

-- what the check answers: the counts and where the statements start, or the refusal
abbrev pub check_of : List ℕ → Decoded → Read Counts
check_of s (accepted b) = value b.counts (concept_offset s b.counts.concepts)
check_of s (refused n) = refusal n

-- going over the concept records notes where each one starts, as far as there is room
pub record ConceptsPassed (s : List ℕ) (h : Counts) (at : ℕ) (r : Result ℕ Refusal) (offsets : List ℕ) : Type 0 where
  pub ends : as_passed r ≡ passed (concepts h h.concepts s at)
  pub starts : (e : ℕ) → r ≡ Ok e → (k : ℕ) → k < h.concepts → k < length offsets → get_or offsets k 0 ≡ behind (concepts h k s at)

-- the check of a book: its answer, and where each concept record of an accepted book starts, as far as there is room
pub record BookChecked (s : List ℕ) (r : Result (Counts × ℕ) Refusal) (offsets : List ℕ) : Type 0 where
  pub answer : as_read r ≡ check_of s (decode s)
  pub starts : (b : Book) → decode s ≡ accepted b → (k : ℕ) → k < b.counts.concepts → k < length offsets → get_or offsets k 0 ≡ concept_offset s k

-- a list in which the starts of the first n records are noted, as far as there is room, and all else is as before
pub record StartsNoted (n : ℕ) (start : ℕ → ℕ) (before after : List ℕ) : Type 0 where
  pub len : length after ≡ length before
  pub noted : (k : ℕ) → k < n → k < length before → get_or after k 0 ≡ start k
  pub kept : (k : ℕ) → n ≤ k → get_or after k 0 ≡ get_or before k 0

-- what going over the concept records leaves in the offsets, where one is faulty too
abbrev pub ConceptsLeft : List ℕ → Counts → ℕ → List ℕ → List ℕ → Type 0
ConceptsLeft s h at before after = StartsNoted (passed_up_to h h.concepts s at) (λ k. behind (concepts h k s at)) before after

-- what the check of a book leaves in the offsets, of a refused book too
abbrev pub OffsetsLeft : List ℕ → List ℕ → List ℕ → Type 0
OffsetsLeft s before after = StartsNoted (concepts_read s) (concept_offset s) before after
