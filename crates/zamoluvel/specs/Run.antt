-- Ends as numbers, for callers in other languages.
use Rattle.std.specs.Prelude.{ℕ, ◌+◌, ◌*◌, List, [], ◌∷◌, eqb}
use Rattle.book.specs.Read.{pick}
use Rattle.rules.specs.Ends.{End, Finished, Clash, Spent, Refused}

-- 0 finished, 1 clash, 2 spent, 100 + n refused by n
abbrev pub code_of : End → ℕ
code_of (Finished t e p) = 0
code_of (Clash t e) = 1
code_of Spent = 2
code_of (Refused n) = 100 + n

-- the counts that an end returns, 0 for those that it does not
abbrev pub type_count_lem : End → ℕ
type_count_lem (Finished t e p) = t
type_count_lem (Clash t e) = t
type_count_lem Spent = 0
type_count_lem (Refused n) = 0

abbrev pub edge_count_lem : End → ℕ
edge_count_lem (Finished t e p) = e
edge_count_lem (Clash t e) = e
edge_count_lem Spent = 0
edge_count_lem (Refused n) = 0

abbrev pub pair_count_lem : End → ℕ
pair_count_lem (Finished t e p) = p
pair_count_lem (Clash t e) = 0
pair_count_lem Spent = 0
pair_count_lem (Refused n) = 0

-- all three, in one array
abbrev pub three_counts : End → List ℕ
three_counts e = type_count_lem e ∷ edge_count_lem e ∷ pair_count_lem e ∷ []

-- how many entries of the named list, 0 the edge list and 1 the pair list, the facts fill: none at any end but finished
abbrev pub filled_entries : ℕ → ℕ → ℕ → ℕ → ℕ
filled_entries code e p named = pick (eqb code 0) (pick (eqb named 0) (3 * e) (pick (eqb named 1) (2 * p) 0)) 0
