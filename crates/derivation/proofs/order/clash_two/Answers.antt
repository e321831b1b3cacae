use Rattle.derivation.proofs.Orders.{clash_first, clash_second, clash_both}
use Rattle.derivation.proofs.order.clash_two.Goals as goal

pub returns-then-c-counts : goal.returns-then-c-counts
returns-then-c-counts c = λ B t. clash_first t _ c.args.h c.class_in-c.ensures.0 c.if-c-counts.true

pub returns-then-d-counts : goal.returns-then-d-counts
returns-then-d-counts c = λ B t. clash_second t _ _ c.class_in-c.ensures.0 c.if-c-counts.false c.class_in-d.ensures.0 c.if-d-counts.true

pub returns : goal.returns
returns c = λ B t. clash_both t _ _ c.bearer-i.ensures.0 c.class_in-c.ensures.0 c.class_in-d.ensures.0 c.if-c-counts.false c.if-d-counts.false c.type_of.ensures c.type_of-2.ensures c.member-clash.ensures
