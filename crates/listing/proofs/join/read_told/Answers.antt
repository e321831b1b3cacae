use Rattle.tables.proofs.Blank.{blank}
use Rattle.derivation.proofs.Preparing.{enough}
use Rattle.tables.proofs.Open.{open_limits}
use native.Mathlib.Omega.{arith}
use Rattle.listing.proofs.join.read_told.Goals as goal

pub read_leaves-requires : goal.read_leaves-requires
read_leaves-requires c = record { concepts_in_bounds = enough 4096 _ (open_limits c.args.book.opened).concepts_top }

pub state-requires : goal.state-requires
state-requires c = record { leaves = c.read_leaves.ensures.0; from_value = c.requires.from_value; in_bounds = (enough 4096 4096 (omega arith), c.requires.blank.2, enough 2048 2048 (omega arith)); blank = (blank 2048, c.requires.blank.0, c.requires.blank.1) }

pub returns : goal.returns
returns c = (c.state.ensures.labels, c.state.ensures.labels_room)
