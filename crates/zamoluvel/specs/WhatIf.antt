-- What a statement would do as numbers, for callers in other languages.
use Rattle.std.specs.Prelude.{ℕ, List, set}
use Rattle.rules.specs.Ends.{End}
use Rattle.effect.specs.Effect.{Further, alone, further, Effect}
use Rattle.zamoluvel.specs.Run.{code_of, type_count_lem, edge_count_lem, pair_count_lem}

-- 5 where no copy is run, and else its end
abbrev pub further_code_lem : Further → ℕ
further_code_lem alone = 5
further_code_lem (further e) = code_of e

-- the counts of what is new
abbrev pub further_types_lem : Further → ℕ
further_types_lem alone = 0
further_types_lem (further e) = type_count_lem e

abbrev pub further_edges_lem : Further → ℕ
further_edges_lem alone = 0
further_edges_lem (further e) = edge_count_lem e

abbrev pub further_pairs_lem : Further → ℕ
further_pairs_lem alone = 0
further_pairs_lem (further e) = pair_count_lem e

-- a list with the three counts of the present run in its first entries, and behind them the copy's end and its three counts, as far as it has them
abbrev pub present_counts : End → List ℕ → List ℕ
present_counts e l = set (set (set l 0 (type_count_lem e)) 1 (edge_count_lem e)) 2 (pair_count_lem e)

abbrev pub copy_counts : Further → List ℕ → List ℕ
copy_counts f l = set (set (set (set l 3 (further_code_lem f)) 4 (further_types_lem f)) 5 (further_edges_lem f)) 6 (further_pairs_lem f)

abbrev pub effect_counts : Effect → List ℕ → List ℕ
effect_counts x l = copy_counts x.copy (present_counts x.present.end l)
