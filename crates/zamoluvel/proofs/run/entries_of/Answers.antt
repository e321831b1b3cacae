use borrow.Author.Tests.{eq-eqb, ne_eqb}
use mathlib.Core.Path.{refl}
use Rattle.zamoluvel.proofs.run.entries_of.Goals as goal

pub returns-then-named-eq0 : goal.returns-then-named-eq0
returns-then-named-eq0 c = rw (eq-eqb c.args.named 0 c.if-named-eq0.true) refl

pub returns-then-named-eq1 : goal.returns-then-named-eq1
returns-then-named-eq1 c = rw (ne_eqb c.args.named 0 c.if-named-eq0.false, eq-eqb c.args.named 1 c.if-named-eq1.true) refl

pub returns : goal.returns
returns c = rw (ne_eqb c.args.named 0 c.if-named-eq0.false, ne_eqb c.args.named 1 c.if-named-eq1.false) refl
