use mathlib.Core.Path.{refl}
use Rattle.derivation.proofs.chain.goes_on.Goals as goal

pub returns : goal.returns
returns c = rw (c.is_edge.ensures, c.leads_from-c.ensures.0, c.leads_to-b.ensures.0) refl
