use Rattle.book.proofs.check.Ways.{StatementsPassed}
use Rattle.book.proofs.check.statements_at.Given as goal

abbrev pub invariant-loop : goal.invariant-loop
invariant-loop l = StatementsPassed l.book l.counts l.at l.counter l.here
