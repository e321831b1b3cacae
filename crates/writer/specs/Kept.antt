-- Which statements stay: each but those that repeat an earlier one in kind and fields, source and days among them.
use Rattle.std.specs.Prelude.{◌≡◌, Bool, false, not, List, [], ◌∷◌, ◌++◌}
use Rattle.book.specs.declared.statement.Statement.{Statement}
use Rattle.book.specs.Bytes.{repeats}
use Rattle.book.specs.Within.{Every}
use Rattle.book.specs.Book.{Book, with_statements}
use Rattle.rules.specs.Lists.{only}
use Rattle.rules.specs.Rule.{some}

-- those that do not repeat x
unfoldable pub without : Statement → List Statement → List Statement
without x [] = []
without x (y ∷ ys) = only (not (repeats x y)) y ++ without x ys

-- whether y repeats one of them
abbrev pub repeated : List Statement → Statement → Bool
repeated xs y = some xs λ x. repeats x y

-- the first of each
unfoldable pub kept : List Statement → List Statement
kept [] = []
kept (x ∷ xs) = x ∷ without x (kept xs)

-- no statement repeats an earlier one
abbrev pub Different : List Statement → Type 0
Different [] = Unit {0}
Different (x ∷ xs) = Every (λ y. repeats x y ≡ false) xs × Different xs

-- of the header only the statement count falls
unfoldable pub cleaned : Book → Book
cleaned B = with_statements B (kept B.statements)
