use mathlib.Core.Path.{◌≡◌}
use native.Mathlib.Omega.{arith}
use Rattle.listing.proofs.Counting.{among_none, among_more}
use Rattle.listing.proofs.join.count_all.Goals as goal

pub loop-i-init : goal.loop-i-init
loop-i-init c = (omega arith, among_none c.args.told.now c.args.labels.now c.args.n, omega arith)

pub count_with-c-requires : goal.count_with-c-requires
count_with-c-requires c = (c.requires.0, c.requires.1, c.requires.2, c.loop-i-test.true)

pub overflow_add-c : goal.overflow_add-c
overflow_add-c c = omega (arith, c.loop-i.invariant.2, c.count_with-c.ensures.1, c.loop-i-test.true, c.requires.0)

pub loop-i-smaller : goal.loop-i-smaller
loop-i-smaller c = omega (arith, c.loop-i-test.true)

pub loop-i-preserved : goal.loop-i-preserved
loop-i-preserved c = (omega (arith, c.loop-i-test.true), omega (arith, c.loop-i.invariant.1, c.count_with-c.ensures.0, among_more c.args.told.now c.args.labels.now c.args.n c.loop-i.i), omega (arith, c.loop-i.invariant.2, c.count_with-c.ensures.1))

pub returns : goal.returns
returns c =
    let e : c.loop-i.i ≡ c.args.n = omega (arith, c.loop-i.invariant.0, c.loop-i-test.false) in
    rw e at c.loop-i.invariant.1
