-- `concepts_at` meets its contract. The invariant: the records below k are passed, their starts are noted, and all else is as before.
use Rattle.book.proofs.Stops.{passed_stops}
use Rattle.book.proofs.check.Ways.{none_noted, concepts_refused, concepts_again, concepts_done}
use Rattle.book.proofs.check.concepts_at.Goals as goal

pub loop-k-init : goal.loop-k-init
loop-k-init c = none_noted _ _ _ _

pub returns-in_err-next : goal.returns-in_err-next
returns-in_err-next c = let w = concepts_refused _ _ _ _ _ _ _ c.loop-k.invariant _ c.in_err-next.ensures _ c.loop-k-test.true (passed_stops _ _ c.from_residual.ensures.1) in record { concepts_passed = w.0; concepts_left = w.1 }

pub loop-k-preserved : goal.loop-k-preserved
loop-k-preserved c = concepts_again _ _ _ _ _ _ _ c.loop-k.invariant _ _ c.in_ok-next.ensures _ c.loop-k-test.true c.note.ensures

pub returns : goal.returns
returns c = let w = concepts_done _ _ _ _ _ _ _ c.loop-k.invariant c.loop-k-test.false in record { concepts_passed = w.0; concepts_left = w.1 }
