use native.Mathlib.Omega.{arith}
use Rattle.derivation.proofs.Preparing.{enough}
use Rattle.listing.proofs.run.list_rows.Goals as goal

pub list_any-requires : goal.list_any-requires
list_any-requires c = record { in_bounds = enough 4096 4096 (omega arith); ran = c.requires }

pub returns : goal.returns
returns c = c.list_any.ensures
