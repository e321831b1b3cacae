use mathlib.Core.Path.{refl}
use Rattle.rules.specs.Fact.{pair}
use Rattle.derivation.proofs.fact.pair_of.Goals as goal

pub returns : goal.returns
unfolding pair
returns c = refl
