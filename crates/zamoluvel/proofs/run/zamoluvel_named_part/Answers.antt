use borrow.Author.Tests.{eq-eqb, ne_eqb}
use mathlib.Core.Path.{refl}
use Rattle.zamoluvel.proofs.run.zamoluvel_named_part.Goals as goal

pub returns-then-code-eq0 : goal.returns-then-code-eq0
returns-then-code-eq0 c = rw (eq-eqb c.args.code 0 c.if-code-eq0.true) c.entries_of.ensures

pub returns : goal.returns
returns c = rw (ne_eqb c.args.code 0 c.if-code-eq0.false) refl
