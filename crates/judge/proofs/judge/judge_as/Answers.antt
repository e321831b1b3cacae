use Rattle.heed.specs.Names.{reader_of}
use Rattle.judge.proofs.Asked.{judgement_read}
use Rattle.judge.proofs.judge.judge_as.Goals as goal

pub returns-in-Ok-clause-judgement : goal.returns-in-Ok-clause-judgement
returns-in-Ok-clause-judgement c = judgement_read (reader_of c.args.names) c.args.book.now c.args.budget c.args.types.now c.args.edges.now c.args.pairs.now c.args.question.individual c.args.question.concept (rw c.in-Ok.is at c.run.ensures.answer)

pub returns-in-Err-clause-judgement : goal.returns-in-Err-clause-judgement
returns-in-Err-clause-judgement c = judgement_read (reader_of c.args.names) c.args.book.now c.args.budget c.args.types.now c.args.edges.now c.args.pairs.now c.args.question.individual c.args.question.concept (rw c.in-Err.is at c.run.ensures.answer)
