-- `next_named` meets its contract. Nothing that counts is passed over.
use native.Mathlib.Omega.{arith}
use Rattle.heed.proofs.Laws.{came_end, came_behind, came_within, came_goes, came_next, came_over}
use Rattle.heed.proofs.heed.next_named.Goals as goal

pub returns-in_err-statement : goal.returns-in_err-statement
returns-in_err-statement c = rw c.from_residual.ensures (came_end _ _ _ _ _ c.loop-here.invariant c.in_err-statement.ensures)

pub heeds-requires : goal.heeds-requires
heeds-requires c = (c.requires, (came_within _ _ _ _ _ c.loop-here.invariant _ _ c.in_ok-statement.ensures).source_top)

pub returns-then-heeds : goal.returns-then-heeds
returns-then-heeds c = came_next _ _ _ _ _ c.loop-here.invariant _ _ c.in_ok-statement.ensures _ c.heeds.ensures c.if-heeds.true

pub loop-here-smaller : goal.loop-here-smaller
loop-here-smaller c =
    let g = came_goes _ _ _ _ _ c.loop-here.invariant _ _ c.in_ok-statement.ensures in
    omega (arith, g.0, g.1)

pub loop-here-preserved : goal.loop-here-preserved
loop-here-preserved c = came_over _ _ _ _ _ c.loop-here.invariant _ _ c.in_ok-statement.ensures _ c.heeds.ensures c.if-heeds.false

pub returns : goal.returns
returns c = came_behind _ _ _ _ _ c.loop-here.invariant c.loop-here-test.false
