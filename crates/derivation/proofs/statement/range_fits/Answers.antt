use mathlib.Core.Path.{refl}
use Rattle.derivation.specs.Fits.{range_fits_lem}
use Rattle.derivation.proofs.statement.range_fits.Goals as goal

pub returns : goal.returns
unfolding range_fits_lem
returns c = λ B t. rw (c.is_edge.ensures, c.class_fits-class.ensures B t, c.leads_to-b.ensures.0) refl
