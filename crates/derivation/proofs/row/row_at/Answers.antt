use mathlib.Core.Path.{refl}
use Rattle.derivation.specs.Rows.{row_at}
use Rattle.derivation.proofs.row.row_at.Goals as goal

pub returns : goal.returns
unfolding row_at
returns c = refl
