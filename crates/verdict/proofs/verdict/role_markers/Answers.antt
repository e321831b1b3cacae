use mathlib.Core.Path.{◌≡◌}
use native.Mathlib.Omega.{arith}
use Rattle.verdict.proofs.verdict.Markings.{brought_none, brought_more, markers_brought}
use Rattle.verdict.proofs.verdict.role_markers.Goals as goal

pub loop-k-init : goal.loop-k-init
loop-k-init c = (omega arith, brought_none)

pub put_marker-requires : goal.put_marker-requires
put_marker-requires c = record { table = c.requires.table; k_in_bounds = omega (arith, c.loop-k.invariant.1.done.len) }

pub overflow_step-k : goal.overflow_step-k
overflow_step-k c = omega arith

pub loop-k-smaller : goal.loop-k-smaller
loop-k-smaller c = omega arith

pub loop-k-preserved : goal.loop-k-preserved
loop-k-preserved c = (omega arith, brought_more c.loop-k.invariant.1 c.put_marker.ensures)

pub shape_of-markers : goal.shape_of-markers
shape_of-markers c = c.loop-k.invariant.1.done.len

pub returns : goal.returns
returns c =
    let e : c.loop-k.k ≡ c.args.n = omega arith in
    markers_brought c.args.size c.args.t.now c.args.takers.now c.args.leaves.now _ c.args.r (rw e at c.loop-k.invariant.1)
