use native.Mathlib.Omega.{arith}
use mathlib.Core.Path.{sym, ◌∙◌}
use Rattle.derivation.proofs.Slots.{slot_atomic, slot_value, slot_none}
use Rattle.derivation.proofs.deep.slot_of.Goals as goal

pub returns-then-is_atomic : goal.returns-then-is_atomic
returns-then-is_atomic c = (slot_atomic c.args.x _ (sym c.is_atomic.ensures ∙ c.if-is_atomic.true) c.slot_below.ensures.0, c.slot_below.ensures.1)

pub returns-then-is_value : goal.returns-then-is_value
returns-then-is_value c = (slot_value c.args.x _ (sym c.is_atomic.ensures ∙ c.if-is_atomic.false) (sym c.is_value.ensures ∙ c.if-is_value.true) c.slot_below-then-is_value.ensures.0, c.slot_below-then-is_value.ensures.1)

pub returns : goal.returns
returns c = (slot_none c.args.x (sym c.is_atomic.ensures ∙ c.if-is_atomic.false) (sym c.is_value.ensures ∙ c.if-is_value.false), omega arith)
