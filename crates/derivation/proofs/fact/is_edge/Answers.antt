use mathlib.Core.Path.{refl}
use Rattle.derivation.specs.Fits.{is_edge_lem}
use Rattle.derivation.proofs.fact.is_edge.Goals as goal

pub returns : goal.returns
unfolding is_edge_lem
returns c = rw (c.edge_of.ensures, c.leads_to-b.ensures.0, c.leads_from-a.ensures.0) refl
