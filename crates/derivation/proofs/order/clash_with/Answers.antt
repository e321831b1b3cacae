use mathlib.Core.Path.{refl}
use Rattle.derivation.proofs.order.clash_with.Goals as goal

pub returns : goal.returns
returns c = λ B t. rw (c.clash_two.ensures B t, c.clash_two-2.ensures B t, c.clash_two-3.ensures B t) refl
