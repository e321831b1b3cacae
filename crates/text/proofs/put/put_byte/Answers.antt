-- `put_byte` writes the one byte.
use mathlib.Core.Path.{refl}
use Rattle.verdict.proofs.list.Writing.{written_one}
use Rattle.text.proofs.put.put_byte.Goals as goal

pub returns : goal.returns
returns c = record { written = written_one c.args.out.now c.args.at c.args.byte c.requires; value = refl }
