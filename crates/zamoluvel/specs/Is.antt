-- Answers to a question as numbers, for callers in other languages.
use Rattle.std.specs.Prelude.{ℕ, List, set}
use Rattle.member.specs.Answer.{Answer, Shown, NotShown, Ended}
use Rattle.zamoluvel.specs.Run.{code_of, type_count_lem, edge_count_lem, pair_count_lem}

-- 3 shown, 4 not shown, and else the run's end
abbrev pub answer_code_lem : Answer → ℕ
answer_code_lem (Shown t e p) = 3
answer_code_lem (NotShown t e p) = 4
answer_code_lem (Ended x) = code_of x

-- the counts of the run
abbrev pub types_in : Answer → ℕ
types_in (Shown t e p) = t
types_in (NotShown t e p) = t
types_in (Ended x) = type_count_lem x

abbrev pub edges_in_lem : Answer → ℕ
edges_in_lem (Shown t e p) = e
edges_in_lem (NotShown t e p) = e
edges_in_lem (Ended x) = edge_count_lem x

abbrev pub pairs_in_lem : Answer → ℕ
pairs_in_lem (Shown t e p) = p
pairs_in_lem (NotShown t e p) = p
pairs_in_lem (Ended x) = pair_count_lem x

-- a list with the three counts in its first entries, as far as it has them
abbrev pub counts_in : Answer → List ℕ → List ℕ
counts_in a l = set (set (set l 0 (types_in a)) 1 (edges_in_lem a)) 2 (pairs_in_lem a)
