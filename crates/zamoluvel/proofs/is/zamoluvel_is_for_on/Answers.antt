use mathlib.Core.Path.{ap, ◌∙◌}
use Rattle.member.specs.Answer.{Answer, Answered}
use Rattle.zamoluvel.specs.Is.{answer_code_lem, counts_in}
use Rattle.rules.specs.Spoken.{reader_on}
use Rattle.member.proofs.Judged.{judgement_for}
use Rattle.zamoluvel.proofs.is.zamoluvel_is_for_on.Goals as goal

pub returns : goal.returns
returns c = let f = ap (λ (x : Answered). x.answer) c.judge_as-answer.ensures.pairs_after in record { value = c.answer_code.ensures ∙ ap answer_code_lem f; counts_after = c.put_counts.ensures ∙ ap (λ (x : Answer). counts_in x c.args.counts.now) f; types_after = ap (λ (x : Answered). x.types) c.judge_as-answer.ensures.pairs_after; edges_after = ap (λ (x : Answered). x.edges) c.judge_as-answer.ensures.pairs_after; pairs_after = ap (λ (x : Answered). x.pairs) c.judge_as-answer.ensures.pairs_after; judgement = judgement_for (reader_on c.args.reader c.args.table.now c.args.day) c.args.book.now c.args.budget c.args.types.now c.args.edges.now c.args.pairs.now c.args.individual c.args.concept }
