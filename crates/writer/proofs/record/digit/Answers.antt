use native.Mathlib.Omega.{arith}
use mathlib.Core.Path.{◌∙◌}
use Rattle.writer.proofs.Digits.{digit_past, digit_there}
use Rattle.writer.proofs.record.digit.Goals as goal

pub returns-then-span-d : goal.returns-then-span-d
returns-then-span-d c = (digit_past _ _ _ _ c.if-span-d.true, omega arith)

pub returns : goal.returns
returns c = (c.half_of.ensures.0 ∙ digit_there _ _ _ _ (omega arith), c.half_of.ensures.1)
