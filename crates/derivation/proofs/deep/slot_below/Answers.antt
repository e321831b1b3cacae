use native.Mathlib.Omega.{arith}
use mathlib.Core.Path.{refl}
use borrow.Author.Tests.{lt-ltb, le-ltb}
use Rattle.derivation.proofs.deep.slot_below.Goals as goal

pub returns-then-y-n : goal.returns-then-y-n
returns-then-y-n c = (rw (lt-ltb c.args.y c.args.n c.if-y-n.true) refl, omega arith)

pub returns : goal.returns
returns c = (rw (le-ltb c.args.y c.args.n c.if-y-n.false) refl, omega arith)
