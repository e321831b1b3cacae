use Rattle.tables.proofs.Open.{open_limits}
use Rattle.derivation.proofs.Preparing.{enough}
use Rattle.derivation.proofs.check.judge_book.Goals as goal

pub judge_leaves-requires : goal.judge_leaves-requires
judge_leaves-requires c = record { from_value = c.requires.from_value; concepts_in_bounds = enough 4096 _ (open_limits c.args.book.opened).concepts_top }
