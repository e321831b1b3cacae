use Rattle.listing.proofs.Clashes.{denied_there}
use Rattle.listing.proofs.clash.clash_row.Goals as goal

pub find_clash-requires : goal.find_clash-requires
find_clash-requires c = rw c.size_of.ensures (c.requires.listed.table, c.requires.pairs_of.1)

pub types_row-requires : goal.types_row-requires
types_row-requires c = record { listed = c.requires.listed; pairs_of = c.requires.pairs_of.0; two = rw c.size_of.ensures at c.in-Some.ensures }

pub denial_row-requires : goal.denial_row-requires
denial_row-requires c = record { listed = c.requires.listed; labels_of = c.requires.labels_of; located = c.requires.located; t_value = denied_there c.requires.listed c.args.book.opened c.requires.pairs_of.0 c.requires.t_value (rw c.size_of.ensures at c.in-None.ensures) }
