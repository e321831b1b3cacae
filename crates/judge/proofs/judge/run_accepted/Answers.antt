use native.Mathlib.Omega.{arith}
use mathlib.Core.Path.{◌∙◌}
use Rattle.judge.proofs.Asked.{no_such_individual, no_such_concept, own_gave}
use Rattle.judge.proofs.judge.run_accepted.Goals as goal

pub returns-then-question-counts-clause-answer : goal.returns-then-question-counts-clause-answer
returns-then-question-counts-clause-answer c = no_such_individual c.requires.admitted _ c.args.question.individual c.args.question.concept c.args.names c.requires.ready c.args.book.opened (omega (arith, c.if-question-counts.true))

pub returns-then-question-counts-2-clause-answer : goal.returns-then-question-counts-2-clause-answer
returns-then-question-counts-2-clause-answer c = no_such_concept c.requires.admitted _ c.args.question.individual c.args.question.concept c.args.names c.requires.ready c.args.book.opened (omega (arith, c.if-question-counts-2.true))

pub returns-clause-answer : goal.returns-clause-answer
returns-clause-answer c = c.allot.ensures.answer ∙ own_gave c.requires.admitted _ c.args.question.individual c.args.question.concept c.args.names c.requires.ready c.args.book.opened (omega (arith, c.if-question-counts.false)) (omega (arith, c.if-question-counts-2.false))
