use mathlib.Core.Path.{refl}
use Rattle.derivation.proofs.chain.fillers_from.Goals as goal

pub returns : goal.returns
returns c = rw (c.join_fits.ensures, c.join_fits-2.ensures, c.join_fits-3.ensures) refl
