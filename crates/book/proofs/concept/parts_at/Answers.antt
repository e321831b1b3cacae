-- `parts_at` meets its contract. The invariant: the parts so far are passed and end here.
use Rattle.book.proofs.Stops.{stops_passed}
use Rattle.book.proofs.concept.Ways.{none_passed, parts_refused, parts_again}
use Rattle.book.proofs.concept.parts_at.Goals as goal

pub loop-init : goal.loop-init
loop-init c = none_passed _ _ _

pub returns-in_err-next : goal.returns-in_err-next
returns-in_err-next c = stops_passed _ _ _ c.from_residual.ensures.1 (parts_refused _ _ _ _ _ c.loop.invariant _ _ c.loop-test.true c.in_err-next.ensures)

pub loop-preserved : goal.loop-preserved
loop-preserved c = parts_again _ _ _ _ _ c.loop.invariant _ _ c.in_ok-next.ensures
