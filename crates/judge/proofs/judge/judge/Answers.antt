use mathlib.Core.Path.{ap, ◌∙◌}
use Rattle.book.specs.Book.{Decoded}
use Rattle.rules.proofs.Spoken.{decode_all}
use Rattle.member.specs.Answer.{member_of}
use Rattle.judge.proofs.Asked.{judgement_gave}
use Rattle.judge.proofs.judge.judge.Goals as goal

pub returns : goal.returns
returns c = let e = c.judge_as.ensures.pairs_after ∙ ap (λ (d : Decoded). member_of d c.args.budget c.args.types.now c.args.edges.now c.args.pairs.now c.args.individual c.args.concept) (decode_all c.args.book.now) in record { pairs_after = e; judgement = judgement_gave c.args.book.now c.args.budget c.args.types.now c.args.edges.now c.args.pairs.now c.args.individual c.args.concept e }
