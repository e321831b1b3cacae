use native.Mathlib.Omega.{arith}
use mathlib.Core.Path.{◌∙◌}
use Rattle.rules.proofs.Ended.{length_entries2}
use Rattle.verdict.specs.Listing.{pairs_of_lem}
use Rattle.verdict.proofs.list.Writing.{written_filled}
use Rattle.verdict.proofs.list.Rows.{lays_two, rows_start, rows_more, rows_room, rows_all, rows_end}
use Rattle.verdict.proofs.list.list_pairs.Goals as goal

pub loop-i-init : goal.loop-i-init
loop-i-init c = rows_start lays_two

pub bounds-labels-i : goal.bounds-labels-i
bounds-labels-i c = omega (arith, c.requires.labelled.0.room, c.loop-i-test.true)

pub overflow_cast-labels : goal.overflow_cast-labels
overflow_cast-labels c = omega (arith, c.shared_slice_known-in-loop-i-1.given c.loop-i.i)

pub list_behind-at-requires : goal.list_behind-at-requires
unfolding pairs_of_lem
list_behind-at-requires c = record { n_in_bounds = omega (arith, c.requires.labelled.0.low c.loop-i.i c.loop-i-test.true, c.requires.labelled.1, c.requires.labelled.2); n_in_bounds_2 = rw length_entries2 at (rows_room lays_two c.loop-i.invariant (rw length_entries2 c.requires.n_in_bounds) c.loop-i-test.true) }

pub loop-i-smaller : goal.loop-i-smaller
loop-i-smaller c = omega (arith, c.loop-i-test.true)

pub loop-i-preserved : goal.loop-i-preserved
loop-i-preserved c = rows_more lays_two c.loop-i.invariant c.loop-i-test.true c.list_behind-at.ensures

pub clear-requires : goal.clear-requires
unfolding pairs_of_lem
clear-requires c = rows_end lays_two c.loop-i.invariant c.loop-i-test.false (rw length_entries2 c.requires.n_in_bounds)

pub shape_of-list : goal.shape_of-list
shape_of-list c = c.list-2-1.given ∙ c.loop-i.invariant.written.len

pub returns : goal.returns
unfolding pairs_of_lem
returns c = written_filled (rows_all lays_two c.loop-i.invariant c.loop-i-test.false) c.clear.ensures
