use native.Mathlib.Omega.{arith}
use Rattle.rows.proofs.members.Going.{going, at_end}
use Rattle.verdict.proofs.list.Gathers.{none_behind, scan_behind}
use Rattle.verdict.proofs.list.Counting.{counted_start, counted_more, counted_few, counted_all}
use Rattle.verdict.proofs.list.count_behind.Goals as goal

pub loop-b-init : goal.loop-b-init
loop-b-init c = rw c.into_iter-b-iterator.ensures.into_iter_gives (c.from-b-items.ensures.0, omega (arith, c.from-b-items.ensures.1), rw c.from-b-items.ensures.1 (counted_start _ (none_behind _ _)))

pub overflow_add-i : goal.overflow_add-i
overflow_add-i c = record { fits = omega (arith, counted_few c.loop-b.invariant.2) }

pub loop-b-preserved : goal.loop-b-preserved
loop-b-preserved c =
    let b = going c.loop-b.invariant.0 c.in-Some.ensures.steps in
    (b.over, omega (arith, b.at, b.scan.ge, c.loop-b.invariant.1), rw b.at (counted_more c.loop-b.invariant.2 (scan_behind c.loop-b.invariant.1 b.scan) b.lt))

pub returns : goal.returns
returns c = counted_all c.loop-b.invariant.2 _ (scan_behind c.loop-b.invariant.1 (at_end c.loop-b.invariant.0 c.in-None.ensures.steps))
