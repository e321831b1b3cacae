use mathlib.Core.Path.{refl}
use Rattle.denial.proofs.Left.{pair_there}
use Rattle.denial.proofs.deny.denies.Goals as goal

pub returns-in-DifferentIndividuals : goal.returns-in-DifferentIndividuals
returns-in-DifferentIndividuals c = let w = rw c.in-DifferentIndividuals.is at c.requires.within.0 in rw c.in-DifferentIndividuals.is (pair_there c.args.counts c.requires.limits.0 c.requires.limits.1 c.args.labels.now _ _ w.0 w.1 refl)
