use Rattle.saturation.proofs.part.Fronts.{no_pairs}
use mathlib.Core.Path.{refl}
use Rattle.saturation.proofs.part.pair_entries.Goals as goal

pub returns-in-Finished : goal.returns-in-Finished
returns-in-Finished c = rw c.in-Finished.is refl

pub returns-in_default : goal.returns-in_default
returns-in_default c = no_pairs c.args.end c.in_default.in_default-own.keys2
