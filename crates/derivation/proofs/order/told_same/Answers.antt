use mathlib.Core.Path.{refl}
use Rattle.derivation.proofs.Orders.{same_first, same_second, same_yes}
use Rattle.derivation.proofs.order.told_same.Goals as goal

pub returns-then-i-n : goal.returns-then-i-n
returns-then-i-n c = same_first _ c.args.labels.now _ c.args.j c.if-i-n.true

pub returns-then-j-n : goal.returns-then-j-n
returns-then-j-n c = same_second _ c.args.labels.now _ _ c.if-i-n.false c.if-j-n.true

pub returns : goal.returns
returns c = same_yes _ _ _ _ c.if-i-n.false c.if-j-n.false refl
