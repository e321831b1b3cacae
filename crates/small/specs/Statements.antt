-- The statements of the small books: all that the tables of kinds and maps allow over one role, two individuals and one concept.
use Rattle.std.specs.Prelude.{ℕ, zero, suc, ◌+◌, ◌*◌, ◌-◌, ◌/◌, ◌%◌, List, [], ◌∷◌, ◌++◌, length, get_or, eqb}
use Rattle.book.specs.declared.header.Counts.{Counts}
use Rattle.book.specs.Table.{Start}
use Rattle.book.specs.declared.statement.Statement.{Statement}
use Rattle.book.specs.declared.statement.Axiom.TheVariants.{TransitiveRole}
use Rattle.book.specs.declared.role.Role.TheVariants.{Named}
use Rattle.book.specs.Read.{pick}
use Rattle.book.specs.Table.{statement_maps}
use Rattle.book.specs.Statement.{statement_limits, unmarked, statement_of_lem, bare}
use Rattle.book.specs.Bytes.{Place, gap, put, fill}

-- one class, one role, two individuals, one concept, and n statements
abbrev pub small_counts : ℕ → Counts
small_counts n = record { classes = 1; roles = 1; individuals = 2; concepts = 1; statements = n }

-- what f makes of each entry, one after the other
abbrev pub each : {A B : Type 0} → List A → (A → List B) → List B
each [] f = []
each (x ∷ xs) f = f x ++ each xs f

-- 0, 1, .., n - 1
abbrev pub below : ℕ → List ℕ
below zero = []
below (suc n) = below n ++ (n ∷ [])

abbrev pub start_of : ℕ → ℕ → Start
start_of kind map = record { kind = kind; map = map }

abbrev pub unless_same : ℕ → ℕ → ℕ → List Start
unless_same kind before map = pick (eqb before map) [] (start_of kind map ∷ [])

-- a kind with each of its maps: the table has three places for a kind, filled by the one map of a kind that has one
abbrev pub starts_of : ℕ → List Start
starts_of kind =
    let first = get_or statement_maps (3 * kind) 0 in
    let second = get_or statement_maps (3 * kind + 1) 0 in
    let third = get_or statement_maps (3 * kind + 2) 0 in
    start_of kind first ∷ unless_same kind first second ++ unless_same kind second third

-- every kind of the table; there is no kind 0
abbrev pub starts : List Start
starts = each (below (length statement_maps / 3 - 1)) λ k. starts_of (k + 1)

-- The fields of n bits of a map, from bit k on, in every way: none where the bit is not set, else each number below its limit. The first field
-- changes last.
abbrev pub choices : ℕ → ℕ → ℕ → List ℕ → List (List Place)
choices zero k map limits = [] ∷ []
choices (suc n) k map limits =
    let rest = choices n (k + 1) (map / 2) limits in
    let here = pick (eqb (map % 2) 0) (gap ∷ []) (each (below (get_or limits k 0)) λ v. put v ∷ []) in
    each here λ p. each rest λ ps. (p ∷ ps) ∷ []

-- THE STATEMENTS, in the order of their bytes; bits 0 to 7 of the map have their fields, and no statement has a source or days
unfoldable pub small_statements : List Statement
small_statements =
    each starts λ start.
    each (choices 8 0 start.map (statement_limits (small_counts 0))) λ places. statement_of_lem start (fill 0 places unmarked) ∷ []

-- past the last
abbrev pub spare : Statement
spare = bare (TransitiveRole (Named 0))

-- the statement at a place of this order
abbrev pub statement_at_lem : ℕ → Statement
statement_at_lem i = get_or small_statements i spare
