-- `answer` puts the defined output.
use Rattle.saturate.proofs.Answers.{output_long, output_run}
use Rattle.saturate.proofs.answer.Goals as goal

pub returns-then-book-gt65536-clause-out_after : goal.returns-then-book-gt65536-clause-out_after
returns-then-book-gt65536-clause-out_after c = output_long _ c.if-book-gt65536.true c.put_line.ensures.written

pub returns-clause-out_after : goal.returns-clause-out_after
returns-clause-out_after c = output_run _ c.if-book-gt65536.false c.run_whole.ensures.out_after
