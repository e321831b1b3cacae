-- `statements` ends: each step of the reader goes forward.
use mathlib.Core.Path.{sym, ◌∙◌}
use native.Mathlib.Omega.{arith}
use Rattle.book.proofs.reader.Laws.{turn_goes}
use Rattle.book_cases.proofs.statements.Goals as goal

pub loop-x-smaller : goal.loop-x-smaller
loop-x-smaller c =
    let goes = turn_goes c.args.book.now c.args.counts c.loop-x.here _ _ (sym c.next_statement.ensures ∙ c.in-Some.is) in
    omega (arith, goes.0, goes.1)
