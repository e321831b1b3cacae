use native.Mathlib.Omega.{arith}
use Rattle.verdict.proofs.list.Counting.{pairs_none, pairs_next, pairs_all}
use Rattle.verdict.proofs.list.count_pairs.Goals as goal

pub loop-i-init : goal.loop-i-init
loop-i-init c = pairs_none _ _ _

pub bounds-labels-i : goal.bounds-labels-i
bounds-labels-i c = omega (arith, c.requires.0.room, c.loop-i-test.true)

pub overflow_cast-labels : goal.overflow_cast-labels
overflow_cast-labels c = omega (arith, c.shared_slice_known-in-loop-i-1.given c.loop-i.i)

pub count_behind-count-requires : goal.count_behind-count-requires
count_behind-count-requires c = omega (arith, c.requires.0.low c.loop-i.i c.loop-i-test.true, c.loop-i.invariant.few, c.requires.1, c.requires.2)

pub loop-i-smaller : goal.loop-i-smaller
loop-i-smaller c = omega (arith, c.loop-i-test.true)

pub loop-i-preserved : goal.loop-i-preserved
loop-i-preserved c = pairs_next c.loop-i.invariant c.loop-i-test.true c.requires.2 c.count_behind-count.ensures

pub returns : goal.returns
returns c = pairs_all c.loop-i.invariant c.loop-i-test.false
