-- Going over the statements: what has been passed, and what of it is kept.
use Rattle.std.specs.Prelude.{ℕ, ◌+◌, ◌<◌, ◌≡◌, List, ◌++◌, length, get_or}
use Rattle.book.specs.declared.header.Counts.{Counts}
use Rattle.book.specs.declared.statement.Statement.{Statement}
use Rattle.book.specs.declared.statement.Axiom.TheVariants.{TransitiveRole}
use Rattle.book.specs.declared.role.Role.TheVariants.{Named}
use Rattle.book.specs.Read.{value}
use Rattle.book.specs.Statement.{bare, statement}
use Rattle.book.specs.Reader.{rest}
use Rattle.writer.specs.Kept.{kept}
use Rattle.writer.specs.Tree.{Tree}

-- past the end of a list of statements
abbrev pub spare : Statement
spare = bare (TransitiveRole (Named 0))

-- the kept record k is read as the statement k of the list
abbrev pub ReadsAt : List ℕ → Counts → List Statement → List ℕ → List ℕ → ℕ → Type 0
ReadsAt s h xs place size k = statement h s (get_or place k 0) ≡ value (get_or xs k spare) (get_or place k 0 + get_or size k 0)

-- the kept records are those of the list, in its order
pub record Records (s : List ℕ) (h : Counts) (xs : List Statement) (count : ℕ) (place size : List ℕ) : Type 0 where
  pub counted : length xs ≡ count
  pub reads : (k : ℕ) → k < count → ReadsAt s h xs place size k

-- from `start` the reader has come to `here`, and the tree has what stays of the statements passed
pub record Gathering (s : List ℕ) (h : Counts) (start count : ℕ) (child place size : List ℕ) (here : ℕ) : Type 0 where
  pub tree : Tree s count child place size
  pub passed : List Statement
  pub split : rest s h start ≡ passed ++ rest s h here
  pub records : Records s h (kept passed) count place size
