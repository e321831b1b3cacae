use Rattle.std.specs.Prelude.{ℕ}
use mathlib.Core.Path.{ap, ◌∙◌}
use Rattle.zamoluvel.specs.Run.{code_of, type_count_lem, edge_count_lem, pair_count_lem}
use Rattle.rules.proofs.Demand.{demand}
use Rattle.zamoluvel.proofs.run.zamoluvel_saturate.Goals as goal

pub returns : goal.returns
returns c = record { value = c.code_of.ensures ∙ ap code_of c.saturate-end.ensures.result_value; type_count_after = (ap (λ (p : ℕ × ℕ × ℕ). p.0) c.counts_of.ensures) ∙ ap type_count_lem c.saturate-end.ensures.result_value; edge_count_after = (ap (λ (p : ℕ × ℕ × ℕ). p.1) c.counts_of.ensures) ∙ ap edge_count_lem c.saturate-end.ensures.result_value; pair_count_after = (ap (λ (p : ℕ × ℕ × ℕ). p.2) c.counts_of.ensures) ∙ ap pair_count_lem c.saturate-end.ensures.result_value; types_after = c.saturate-end.ensures.types_after; edges_after = c.saturate-end.ensures.edges_after; pairs_after = c.saturate-end.ensures.pairs_after; demand = demand c.args.book.now c.args.budget c.args.types.now c.args.edges.now c.args.pairs.now }
