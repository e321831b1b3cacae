-- The named list.
use Rattle.std.specs.Prelude.{ℕ, List}
use Rattle.rules.specs.Ends.{End, edge_part, pair_part}
use Rattle.saturation.specs.declared.part.Named.{Named}
use Rattle.saturation.specs.declared.part.Named.TheVariants.{Edges, Pairs}

-- the part of the named one of the two lists that the facts fill
abbrev pub part_of : Named → End → List ℕ → List ℕ → List ℕ
part_of Edges end es ps = edge_part end es
part_of Pairs end es ps = pair_part end ps
