use Rattle.derivation.proofs.Slots.{class_fit}
use Rattle.derivation.proofs.statement.class_fits.Goals as goal

pub returns : goal.returns
returns c = λ B t. class_fit t c.args.d c.requires.d_lt_concepts.0 c.args.i c.requires.d_lt_concepts.1 c.args.f c.class_in-c.ensures c.leaf_has-known.ensures c.type_of.ensures
