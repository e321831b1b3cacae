use native.Mathlib.Omega.{arith}
use Rattle.rows.proofs.members.Going.{going, at_end}
use Rattle.rules.proofs.Ended.{length_entries3}
use Rattle.verdict.proofs.list.Rows.{lays_three, listed_to, listed_more, listed_room, listed_all}
use Rattle.verdict.proofs.list.Room.{start_room, edges_none}
use Rattle.verdict.proofs.list.list_edges_of.Goals as goal

pub of-a-items-requires : goal.of-a-items-requires
of-a-items-requires c = (start_room c.requires.table _ (omega arith) c.requires.table.sized.individuals, omega (arith, c.requires.table.sized.individuals))

pub list_edges_from-i-requires-clause-first_in_bounds : goal.list_edges_from-i-requires-clause-first_in_bounds
list_edges_from-i-requires-clause-first_in_bounds c =
    let b = going c.loop-a.invariant.0 c.in-Some.ensures.steps in
    let d = listed_to lays_three (edges_none c.requires.table _ c.requires.role_bound) c.loop-a.invariant.1 b.scan (omega (arith, b.lt)) in
    rw length_entries3 at (listed_room lays_three d (rw length_entries3 c.requires.role_in_bounds) b.lt)

pub loop-a-preserved : goal.loop-a-preserved
loop-a-preserved c =
    let b = going c.loop-a.invariant.0 c.in-Some.ensures.steps in
    let d = listed_to lays_three (edges_none c.requires.table _ c.requires.role_bound) c.loop-a.invariant.1 b.scan (omega (arith, b.lt)) in
    (b.over, rw b.at (listed_more lays_three d b.lt c.list_edges_from-i.ensures))

pub returns : goal.returns
returns c = listed_all lays_three (edges_none c.requires.table _ c.requires.role_bound) c.loop-a.invariant.1 (at_end c.loop-a.invariant.0 c.in-None.ensures.steps).gap
