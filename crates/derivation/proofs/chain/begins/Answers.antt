use mathlib.Core.Path.{refl}
use Rattle.derivation.proofs.chain.begins.Goals as goal

pub returns : goal.returns
returns c = rw (c.is_edge.ensures, c.leads_from-b.ensures.0, c.leads_from-a.ensures.0) refl
