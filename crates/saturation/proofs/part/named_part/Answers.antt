use Prim.Native.Nat.{ℕ}
use mathlib.Core.Path.{ap, ◌∙◌}
use lib.ListN.{take}
use Rattle.saturation.proofs.part.named_part.Goals as goal

pub returns-in-Edges : goal.returns-in-Edges
returns-in-Edges c = rw c.in-Edges.is (c.front.ensures ∙ ap (λ (n : ℕ). take n c.args.edges.now) c.edge_entries.ensures)

pub returns-in-Pairs : goal.returns-in-Pairs
returns-in-Pairs c = rw c.in-Pairs.is (c.front-in-Pairs.ensures ∙ ap (λ (n : ℕ). take n c.args.pairs.now) c.pair_entries.ensures)
