use Rattle.std.specs.Prelude.{ℕ}
use mathlib.Core.Path.{ap, ◌∙◌}
use Rattle.zamoluvel.specs.Run.{code_of, type_count_lem, edge_count_lem, pair_count_lem}
use Rattle.rules.specs.Spoken.{reader}
use Rattle.rules.proofs.Spoken.{demand_for}
use Rattle.zamoluvel.proofs.run.zamoluvel_saturate_for.Goals as goal

pub returns : goal.returns
returns c = record { value = c.code_of.ensures ∙ ap code_of c.saturate_as-end.ensures.result_value; type_count_after = (ap (λ (p : ℕ × ℕ × ℕ). p.0) c.counts_of.ensures) ∙ ap type_count_lem c.saturate_as-end.ensures.result_value; edge_count_after = (ap (λ (p : ℕ × ℕ × ℕ). p.1) c.counts_of.ensures) ∙ ap edge_count_lem c.saturate_as-end.ensures.result_value; pair_count_after = (ap (λ (p : ℕ × ℕ × ℕ). p.2) c.counts_of.ensures) ∙ ap pair_count_lem c.saturate_as-end.ensures.result_value; types_after = c.saturate_as-end.ensures.types_after; edges_after = c.saturate_as-end.ensures.edges_after; pairs_after = c.saturate_as-end.ensures.pairs_after; demand = λ B d. demand_for (reader c.args.reader c.args.table.now) c.args.book.now B d c.args.budget c.args.types.now c.args.edges.now c.args.pairs.now }
