use mathlib.Core.Path.{refl}
use Rattle.derivation.specs.Fits.{join_fits_lem}
use Rattle.derivation.proofs.rule.join_fits.Goals as goal

pub returns : goal.returns
unfolding join_fits_lem
returns c =
    rw (
      c.pair_of.ensures,
      c.is_edge-2.ensures,
      c.is_edge.ensures,
      c.leads_to-d.ensures.0,
      c.leads_from-c.ensures.0,
      c.leads_to-b.ensures.0,
      c.leads_from-a.ensures.0,
    ) refl
