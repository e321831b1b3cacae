use mathlib.Core.Path.{refl}
use Rattle.derivation.specs.Fits.{domain_fits_lem}
use Rattle.derivation.proofs.statement.domain_fits.Goals as goal

pub returns : goal.returns
unfolding domain_fits_lem
returns c = λ B t. rw (c.is_edge.ensures, c.class_fits-class.ensures B t, c.leads_from-a.ensures.0) refl
