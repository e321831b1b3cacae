use Rattle.heed.specs.Names.{reader_of}
use Rattle.saturation.specs.Run.{heard_book}
use Rattle.saturation.proofs.run.Closing.{heard_inside}
use Rattle.saturation.proofs.allot.Words.{fresh_of}
use Rattle.judge.proofs.Agree.{answered_same}
use Rattle.judge.proofs.allot.run_in.Goals as goal

pub draw-drawn-requires-clause-fresh : goal.draw-drawn-requires-clause-fresh
draw-drawn-requires-clause-fresh g c = fresh_of c.requires.enough

pub read_off-end-requires-clause-inside : goal.read_off-end-requires-clause-inside
read_off-end-requires-clause-inside g c = let r = reader_of c.args.names in (heard_book r c.args.book.bytes.now, heard_inside r c.args.book.opened, c.args.book.opened.counts, c.draw-drawn.ensures.drawn)

pub give_answer-requires-clause-table : goal.give_answer-requires-clause-table
give_answer-requires-clause-table g c = c.draw-drawn.ensures.drawn.kept.table

pub returns-clause-answer : goal.returns-clause-answer
returns-clause-answer g c =
    let r = reader_of c.args.names in
    answered_same (heard_inside r c.args.book.opened) c.args.book.opened.counts c.draw-drawn.ensures.drawn _ _ _ c.give_answer.result c.read_off-end.result c.args.question.individual c.args.question.concept c.requires.concept_lt_concepts.1 (c.read_off-end.ensures.outcome (heard_book r c.args.book.bytes.now) (heard_inside r c.args.book.opened) c.args.book.opened.counts c.draw-drawn.ensures.drawn) c.give_answer.ensures
