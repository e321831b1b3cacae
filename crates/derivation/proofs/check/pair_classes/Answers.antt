use native.Mathlib.Omega.{arith}
use Rattle.derivation.proofs.Preparing.{marker_role, pairs_of}
use Rattle.derivation.proofs.check.pair_classes.Goals as goal

pub fill_pairs-requires : goal.fill_pairs-requires
fill_pairs-requires c = record { in_bounds = (c.requires.marked.functional_room, c.requires.marked.disjoint_room, c.requires.marked.pairs_room); by_index = marker_role c.args.book.opened c.requires.leaves; n_in_bounds = (omega (arith, c.requires.marked.room, c.collect_all.ensures.1), c.requires.leaves.room) }

pub returns : goal.returns
returns c = (pairs_of c.args.book.opened c.requires.leaves c.requires.marked (c.collect_all.ensures.0 _ c.requires.marked.takers) c.fill_pairs.ensures, c.fill_pairs.ensures.len)
