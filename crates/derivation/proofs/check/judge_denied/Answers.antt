use native.Mathlib.Omega.{arith}
use Rattle.tables.proofs.Blank.{blank}
use Rattle.derivation.proofs.Preparing.{enough}
use Rattle.derivation.proofs.check.judge_denied.Goals as goal

pub judge_noted-requires : goal.judge_noted-requires
judge_noted-requires c = record { stated = c.requires; in_bounds = (enough 268288 268288 (omega arith), blank 268288) }
