use native.Mathlib.Omega.{arith}
use Rattle.listing.proofs.clash.put_clash.Goals as goal

pub clash_row-row-requires : goal.clash_row-row-requires
clash_row-row-requires c = record { listed = c.requires.listed; pairs_of = (c.requires.pairs_of.0, c.requires.pairs_of.1); labels_of = c.requires.labels_of; located = c.requires.located; t_value = c.requires.t_value }

pub put_row-requires : goal.put_row-requires
put_row-requires c = omega (arith, c.requires.pairs_of.2)

pub returns : goal.returns
returns c = c.clash_row-row.ensures _ c.put_row.ensures
