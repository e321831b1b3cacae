use mathlib.Core.Path.{refl}
use Rattle.derivation.specs.Fits.{swap_fits_lem}
use Rattle.derivation.proofs.rule.swap_fits.Goals as goal

pub returns : goal.returns
unfolding swap_fits_lem
returns c = rw (c.edge_of.ensures, c.is_edge.ensures, c.leads_to-b.ensures.0, c.leads_from-a.ensures.0) refl
