use native.Mathlib.Omega.{arith}
use Rattle.tables.proofs.Blank.{blank}
use Rattle.saturation.proofs.allot.Words.{within}
use Rattle.judging.proofs.Judging.{memo_none}
use Rattle.judge.proofs.answer.shown_in.Goals as goal

pub shown-requires-clause-memo : goal.shown-requires-clause-memo
shown-requires-clause-memo g c = memo_none c.args.book.bytes.now c.args.book.counts c.args.t.now c.args.groups.now _ _ (within g.row.R _ (omega (arith, c.requires.rows))) (within 64 64 (omega arith)) (blank 64)
