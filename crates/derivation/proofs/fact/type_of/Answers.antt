use mathlib.Core.Path.{refl}
use Rattle.rules.specs.Fact.{type}
use Rattle.derivation.proofs.fact.type_of.Goals as goal

pub returns : goal.returns
unfolding type
returns c = refl
