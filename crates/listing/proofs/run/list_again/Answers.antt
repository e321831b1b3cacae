use native.Mathlib.Nat.{sub-zero}
use Rattle.listing.proofs.run.list_again.Goals as goal

pub returns-then-numbers : goal.returns-then-numbers
returns-then-numbers c = rw c.if-numbers.true (rw sub-zero at c.clear.ensures)

pub list_types-requires : goal.list_types-requires
list_types-requires c = record { table = rw c.size_of.ensures (c.requires.0); t_in_bounds = rw c.size_of.ensures (c.requires.1) }

pub returns : goal.returns
returns c = rw c.if-numbers.false (rw c.size_of.ensures at c.list_types.ensures.1)
