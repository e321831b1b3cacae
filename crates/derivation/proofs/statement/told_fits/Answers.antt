use mathlib.Core.Path.{refl}
use Rattle.derivation.specs.Fits.{told_fits_lem}
use Rattle.derivation.proofs.statement.told_fits.Goals as goal

pub returns : goal.returns
unfolding told_fits_lem
returns c = λ B t. rw (c.class_fits-class.ensures B t, c.value_fits-value.ensures B t) refl
