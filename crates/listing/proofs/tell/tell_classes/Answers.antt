use mathlib.Core.Path.{◌≡◌}
use native.Mathlib.Omega.{arith}
use Rattle.listing.proofs.Telling.{rows_none, rows_more}
use Rattle.listing.proofs.tell.tell_classes.Goals as goal

pub loop-i-init : goal.loop-i-init
loop-i-init c = (omega arith, rows_none c.args.counts c.args.labels.now c.args.t.now)

pub class_row-requires : goal.class_row-requires
class_row-requires c = rw c.size_of.ensures (c.requires.0, omega (arith, c.loop-i-test.true, c.requires.0.individuals))

pub tell_row-requires : goal.tell_row-requires
tell_row-requires c =
    let e = rw c.size_of.ensures at c.class_row.ensures.0 in
    (omega (arith, e, c.loop-i-test.true, c.requires.1, c.loop-i.invariant.1.len), c.requires.0.individuals, c.loop-i-test.true, c.requires.2)

pub loop-i-smaller : goal.loop-i-smaller
loop-i-smaller c = omega (arith, c.loop-i-test.true)

pub loop-i-preserved : goal.loop-i-preserved
loop-i-preserved c =
    let e = rw c.size_of.ensures at c.class_row.ensures.0 in (
      omega (arith, c.loop-i-test.true),
      rows_more c.args.counts c.args.labels.now c.loop-i.i c.requires.0.individuals c.loop-i.invariant.1 (rw e at c.tell_row.ensures),
    )

pub shape_of-t : goal.shape_of-t
shape_of-t c = c.loop-i.invariant.1.len

pub returns : goal.returns
returns c =
    let e : c.loop-i.i ≡ c.args.counts.individuals = omega (arith, c.loop-i.invariant.0, c.loop-i-test.false) in
    rw e at c.loop-i.invariant.1
