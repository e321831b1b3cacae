use Rattle.std.specs.Prelude.{ℕ}
use mathlib.Core.Path.{ap, ◌∙◌}
use Rattle.zamoluvel.specs.Run.{code_of, type_count_lem, edge_count_lem, pair_count_lem}
use Rattle.listing.specs.Listing.{Ended}
use Rattle.zamoluvel.proofs.run.zamoluvel_saturate_rows.Goals as goal

pub returns : goal.returns
returns c = let x = ap (λ (y : Ended). y.end) c.saturate_rows-end.ensures.outcome in record { value = c.code_of.ensures ∙ ap code_of x; type_count_after = (ap (λ (p : ℕ × ℕ × ℕ). p.0) c.counts_of.ensures) ∙ ap type_count_lem x; edge_count_after = (ap (λ (p : ℕ × ℕ × ℕ). p.1) c.counts_of.ensures) ∙ ap edge_count_lem x; pair_count_after = (ap (λ (p : ℕ × ℕ × ℕ). p.2) c.counts_of.ensures) ∙ ap pair_count_lem x; types_after = ap (λ (y : Ended). y.types) c.saturate_rows-end.ensures.outcome; edges_after = ap (λ (y : Ended). y.edges) c.saturate_rows-end.ensures.outcome; left = rw x at c.saturate_rows-end.ensures.rows }
