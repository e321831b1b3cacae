use mathlib.Core.Path.{refl}
use Rattle.derivation.proofs.order.clash_fits.Goals as goal

pub returns : goal.returns
returns c = λ B t. rw (c.clash_with.ensures B t, c.clash_with-2.ensures B t, c.clash_with-3.ensures B t) refl
