use mathlib.Core.Path.{refl}
use native.Mathlib.Omega.{arith}
use Rattle.listing.proofs.Running.{ran_few}
use Rattle.listing.proofs.run.run_listed.Goals as goal

pub entries_due-requires : goal.entries_due-requires
entries_due-requires c = ran_few c.requires

pub returns-then-rows-entries_due : goal.returns-then-rows-entries_due
returns-then-rows-entries_due c = let l = rw c.entries_due.ensures at c.if-rows-entries_due.true in record { refused = λ m. (rw (c.clear_both.ensures.0, c.clear_both.ensures.1) refl, refl); listed = λ m. absurd (omega (arith, l)) }

pub list_rows-requires : goal.list_rows-requires
list_rows-requires c = (c.requires, rw c.entries_due.ensures at c.if-rows-entries_due.false)

pub returns : goal.returns
returns c =
    let l = rw c.entries_due.ensures at c.if-rows-entries_due.false in
    record { refused = λ m. absurd (omega (arith, l)); listed = λ m. (rw (c.end_with.ensures, c.list_rows.ensures.types) refl, c.list_rows.ensures.listing) }
