use mathlib.Core.Path.{refl}
use Rattle.derivation.proofs.order.joins.Goals as goal

pub returns : goal.returns
returns c = rw (c.pair_of.ensures, c.pair_of-2.ensures) refl
