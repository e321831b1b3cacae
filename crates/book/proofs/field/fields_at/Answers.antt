-- `fields_at` meets its contract. The invariant: what is left of the walk over the bits gives what the whole walk gives.
use Rattle.book.proofs.Stops.{stops_read}
use Rattle.book.proofs.field.Ways.{fields_start, fields_early, fields_refused, fields_step, fields_done}
use Rattle.book.proofs.field.fields_at.Goals as goal

pub loop-k-init : goal.loop-k-init
loop-k-init c = fields_start _ _ _ _ _ _

pub returns-then-rest-eq0 : goal.returns-then-rest-eq0
returns-then-rest-eq0 c = search fields_early

pub returns-in_err-v : goal.returns-in_err-v
returns-in_err-v c = stops_read _ _ _ c.from_residual.ensures.1 (fields_refused _ _ _ _ _ _ _ _ c.loop-k.invariant _ c.loop-k-test.true c.in_err-v.ensures)

pub loop-k-preserved : goal.loop-k-preserved
loop-k-preserved c = fields_step _ _ _ _ _ _ _ _ c.loop-k.invariant _ _ c.loop-k-test.true c.in_ok-v.ensures

pub returns : goal.returns
returns c = search fields_done
