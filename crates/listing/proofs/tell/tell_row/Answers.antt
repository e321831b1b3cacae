use mathlib.Core.Path.{◌≡◌}
use native.Mathlib.Omega.{arith}
use Rattle.listing.proofs.Telling.{row_none, row_more}
use Rattle.listing.proofs.tell.tell_row.Goals as goal

pub loop-j-init : goal.loop-j-init
loop-j-init c = (omega arith, row_none c.args.t.now)

pub tell_one-requires : goal.tell_one-requires
tell_one-requires c = (omega (arith, c.requires.0, c.loop-j.invariant.1.len), omega arith, omega arith, omega arith)

pub loop-j-smaller : goal.loop-j-smaller
loop-j-smaller c = omega (arith, c.loop-j-test.true)

pub loop-j-preserved : goal.loop-j-preserved
loop-j-preserved c = (omega (arith, c.loop-j-test.true), row_more c.loop-j.j c.loop-j.invariant.1 c.tell_one.ensures)

pub shape_of-t : goal.shape_of-t
shape_of-t c = c.loop-j.invariant.1.len

pub returns : goal.returns
returns c = let e : c.loop-j.j ≡ c.args.n = omega (arith, c.loop-j.invariant.0, c.loop-j-test.false) in rw e at c.loop-j.invariant.1
