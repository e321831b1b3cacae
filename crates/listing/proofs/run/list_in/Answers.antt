use Rattle.listing.proofs.Filling.{types_read, rows_left}
use Rattle.listing.proofs.Running.{ran_due, ran_few, ran_room, ran_clash}
use lib.ListN.{length}
use Rattle.tables.proofs.Open.{open_limits}
use native.Mathlib.Omega.{arith}
use mathlib.Core.Path.{ap, ◌∙◌}
use Rattle.listing.proofs.run.list_in.Goals as goal

pub overflow_add-due : goal.overflow_add-due
overflow_add-due c = omega (arith, ran_few c.requires.ran.0)

pub overflow_add-due-2 : goal.overflow_add-due-2
overflow_add-due-2 c = omega (arith, ran_few c.requires.ran.0)

pub fill_rows-requires : goal.fill_rows-requires
fill_rows-requires c = record { from_value = c.requires.from_value; fresh = (c.requires.fresh, ran_room c.requires.ran.0 c.requires.ran.1); rows_value = ran_due c.requires.ran.0; clashes_value = (c.requires.ran.0.clash, ran_clash c.requires.ran.0 c.requires.ran.1) }

pub list_again-requires : goal.list_again-requires
list_again-requires c =
    let e = ap length (types_read c.args.book.opened.counts (open_limits c.args.book.opened) c.fill_rows.ensures.0) in
    (c.fill_rows.ensures.0.table, omega (arith, e, c.requires.ran.0.types, c.requires.ran.0.room, c.types-1.given, c.fill_rows.ensures.2))

pub entries_due-requires : goal.entries_due-requires
entries_due-requires c = ran_few c.requires.ran.0

pub clear-requires-2 : goal.clear-requires-2
clear-requires-2 c = rw c.entries_due.ensures (omega (arith, c.requires.ran.1, c.fill_rows.ensures.1))

pub shape_of-types : goal.shape_of-types
shape_of-types c = c.types-3-1.given ∙ (c.types-2-1.given ∙ c.types-1.given)

pub shape_of-rows : goal.shape_of-rows
shape_of-rows c = c.rows-2-1.given ∙ c.rows-1.given

pub returns : goal.returns
returns c =
    let types = rw (c.fill_rows.ensures.2, c.types-1.given) at c.list_again.ensures in
    let rows = rw c.entries_due.ensures at c.clear-2.ensures in
    rows_left c.args.book.opened.counts (open_limits c.args.book.opened) c.requires.ran.0 c.fill_rows.ensures.0 c.fill_rows.ensures.1 types c.requires.ran.1 rows
