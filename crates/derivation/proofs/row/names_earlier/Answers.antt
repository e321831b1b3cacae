use mathlib.Core.Path.{refl}
use Rattle.derivation.specs.Rows.{earlier}
use Rattle.derivation.proofs.row.names_earlier.Goals as goal

pub returns : goal.returns
unfolding earlier
returns c = rw (c.before-4.ensures, c.before-3.ensures, c.before-2.ensures) refl
