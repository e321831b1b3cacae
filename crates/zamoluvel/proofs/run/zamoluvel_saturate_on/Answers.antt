use Rattle.std.specs.Prelude.{ℕ}
use mathlib.Core.Path.{ap, ◌∙◌}
use Rattle.rules.specs.Spoken.{anyone_on}
use Rattle.rules.proofs.Spoken.{demand_for}
use Rattle.zamoluvel.specs.Run.{code_of}
use Rattle.zamoluvel.proofs.Counts.{counts_are}
use Rattle.zamoluvel.proofs.run.zamoluvel_saturate_on.Goals as goal

pub returns : goal.returns
returns c = record { value = c.code_of.ensures ∙ ap code_of c.saturate_as-end.ensures.result_value; counts_after = counts_are _ _ _ c.saturate_as-end.ensures.result_value (ap (λ (p : ℕ × ℕ × ℕ). p.0) c.counts_of-type_count.ensures) (ap (λ (p : ℕ × ℕ × ℕ). p.1) c.counts_of-type_count.ensures) (ap (λ (p : ℕ × ℕ × ℕ). p.2) c.counts_of-type_count.ensures); types_after = c.saturate_as-end.ensures.types_after; edges_after = c.saturate_as-end.ensures.edges_after; pairs_after = c.saturate_as-end.ensures.pairs_after; demand = λ B d. demand_for (anyone_on c.args.day) c.args.book.now B d c.args.budget c.args.types.now c.args.edges.now c.args.pairs.now }
