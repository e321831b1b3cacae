use native.Mathlib.Omega.{arith}
use mathlib.Core.Path.{◌∙◌}
use Rattle.rules.proofs.Ended.{length_entries3}
use Rattle.verdict.specs.Listing.{all_edges_lem}
use Rattle.verdict.proofs.list.Writing.{written_filled}
use Rattle.verdict.proofs.list.Rows.{lays_three, rows_start, rows_more, rows_room, rows_all, rows_end}
use Rattle.verdict.proofs.list.list_edges.Goals as goal

pub loop-r-init : goal.loop-r-init
loop-r-init c = rows_start lays_three

pub list_edges_of-at-requires : goal.list_edges_of-at-requires
unfolding all_edges_lem
list_edges_of-at-requires c = record { table = c.requires.table; role_bound = omega (arith, c.requires.table.sized.pairs, c.loop-r-test.true); role_in_bounds = rw length_entries3 at (rows_room lays_three c.loop-r.invariant (rw length_entries3 c.requires.t_in_bounds) c.loop-r-test.true) }

pub loop-r-preserved : goal.loop-r-preserved
loop-r-preserved c = rows_more lays_three c.loop-r.invariant c.loop-r-test.true c.list_edges_of-at.ensures

pub clear-requires : goal.clear-requires
unfolding all_edges_lem
clear-requires c = rows_end lays_three c.loop-r.invariant c.loop-r-test.false (rw length_entries3 c.requires.t_in_bounds)

pub shape_of-list : goal.shape_of-list
shape_of-list c = c.list-2-1.given ∙ c.loop-r.invariant.written.len

pub returns : goal.returns
unfolding all_edges_lem
returns c = written_filled (rows_all lays_three c.loop-r.invariant c.loop-r-test.false) c.clear.ensures
