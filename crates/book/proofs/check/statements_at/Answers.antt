-- `statements_at` meets its contract. The invariant: the statements so far are passed and end here.
use native.Mathlib.Omega.{arith}
use Rattle.book.proofs.Stops.{stops_passed}
use Rattle.book.proofs.check.Ways.{none_passed, statements_refused, statements_again, statements_done}
use Rattle.book.proofs.check.statements_at.Goals as goal

pub loop-init : goal.loop-init
loop-init c = none_passed _ _ _

pub returns-in_err-next : goal.returns-in_err-next
returns-in_err-next c = stops_passed _ _ _ c.from_residual.ensures.1 (statements_refused _ _ _ _ _ c.loop.invariant _ _ c.loop-test.true c.in_err-next.ensures)

pub loop-preserved : goal.loop-preserved
loop-preserved c = statements_again _ _ _ _ _ c.loop.invariant _ _ c.in_ok-next.ensures

pub returns : goal.returns
returns c = statements_done _ _ _ _ _ _ c.loop.invariant (omega arith) (omega arith)
