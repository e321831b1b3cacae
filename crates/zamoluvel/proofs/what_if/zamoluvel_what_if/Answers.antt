use mathlib.Core.Path.{ap, ◌∙◌}
use Rattle.effect.specs.Effect.{Effect}
use Rattle.whatif.specs.Answer.{further_of}
use Rattle.zamoluvel.specs.Run.{code_of}
use Rattle.zamoluvel.specs.WhatIf.{copy_counts, effect_counts}
use Rattle.zamoluvel.proofs.what_if.zamoluvel_what_if.Goals as goal

pub returns : goal.returns
returns c = record { value = c.code_of.ensures ∙ ap (λ (x : Effect). code_of x.present.end) c.what_if-answer.ensures; counts_after = c.put_copy.ensures ∙ (ap (copy_counts (further_of c.what_if-answer.result.copy)) c.put_present.ensures ∙ ap (λ (x : Effect). effect_counts x c.args.counts.now) c.what_if-answer.ensures); types_after = ap (λ (x : Effect). x.present.types) c.what_if-answer.ensures; edges_after = ap (λ (x : Effect). x.present.edges) c.what_if-answer.ensures; pairs_after = ap (λ (x : Effect). x.present.pairs) c.what_if-answer.ensures; more_types_after = ap (λ (x : Effect). x.types) c.what_if-answer.ensures; more_edges_after = ap (λ (x : Effect). x.edges) c.what_if-answer.ensures; more_pairs_after = ap (λ (x : Effect). x.pairs) c.what_if-answer.ensures }
