use native.Mathlib.Omega.{arith}
use mathlib.Core.Path.{◌∙◌}
use Rattle.rules.proofs.Ended.{length_entries2}
use Rattle.verdict.specs.Listing.{types_of}
use Rattle.verdict.proofs.list.Writing.{written_filled, written_half}
use Rattle.verdict.proofs.list.Rows.{lays_two, rows_start, rows_more, rows_room, rows_all, rows_end}
use Rattle.verdict.proofs.list.Room.{lead_room, types_fit}
use Rattle.verdict.proofs.list.list_types.Goals as goal

pub loop-i-init : goal.loop-i-init
loop-i-init c = rows_start lays_two

pub type_field-requires : goal.type_field-requires
type_field-requires c = c.requires.table.sized

pub row_of-requires : goal.row_of-requires
row_of-requires c = (c.requires.table.sized, omega arith, omega arith)

pub list_row-at-requires : goal.list_row-at-requires
unfolding types_of
list_row-at-requires c = let e = rw c.type_field.ensures at c.row_of.ensures.0 in record { n_in_bounds = (lead_room c.requires.table _ _ e (omega arith) c.loop-i-test.true (omega arith), omega arith, omega arith); n_in_bounds_2 = types_fit _ _ _ _ e (rows_room lays_two c.loop-i.invariant (rw length_entries2 c.requires.t_in_bounds) c.loop-i-test.true) }

pub loop-i-preserved : goal.loop-i-preserved
loop-i-preserved c =
    let e = rw c.type_field.ensures at c.row_of.ensures.0 in
    rows_more lays_two c.loop-i.invariant c.loop-i-test.true (rw e at c.list_row-at.ensures)

pub clear-requires : goal.clear-requires
unfolding types_of
clear-requires c = rows_end lays_two c.loop-i.invariant c.loop-i-test.false (rw length_entries2 c.requires.t_in_bounds)

pub shape_of-list : goal.shape_of-list
shape_of-list c = c.list-2-1.given ∙ c.loop-i.invariant.written.len

pub returns : goal.returns
unfolding types_of
returns c =
    let w = rows_all lays_two c.loop-i.invariant c.loop-i-test.false in
    (written_half (types_of c.args.size c.args.t.now) w, written_filled w c.clear.ensures)
