use native.Mathlib.Omega.{arith}
use Rattle.tables.proofs.Open.{open_limits}
use Rattle.judge.proofs.answer.is_shown.Goals as goal

pub shown_in-requires-2-clause-rows : goal.shown_in-requires-2-clause-rows
shown_in-requires-2-clause-rows c = (omega (arith, (open_limits c.requires.ready.book).concepts_top), omega arith)
