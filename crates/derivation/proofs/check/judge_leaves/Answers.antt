use native.Mathlib.Omega.{arith}
use Rattle.tables.proofs.Blank.{blank}
use Rattle.derivation.proofs.Preparing.{enough}
use Rattle.derivation.proofs.check.judge_leaves.Goals as goal

pub judge_read-requires : goal.judge_read-requires
judge_read-requires c = record { leaves = c.read_leaves.ensures.0; from_value = c.requires.from_value; in_bounds = (enough 4096 4096 (omega arith), enough 512 512 (omega arith), enough 2048 2048 (omega arith)); blank = blank 2048 }
