use mathlib.Core.Path.{sym, ◌∙◌, ap}
use Rattle.derivation.proofs.Pairing.{gathers_row, gathers_none}
use mathlib.Core.Bool.{Bool, ◌&&◌}
use Rattle.rows.specs.Row.{has}
use Rattle.derivation.proofs.pair.gather_partner.Goals as goal

pub returns-then-marks_clash : goal.returns-then-marks_clash
returns-then-marks_clash c = gathers_row (sym c.marks_clash.ensures ∙ c.if-marks_clash.true) c.gather.ensures

pub returns-else-marks_clash : goal.returns-else-marks_clash
returns-else-marks_clash c = gathers_none _ _ (λ x. ap (λ (y : Bool). y && has c.args.takers.now c.args.k x) (sym c.marks_clash.ensures ∙ c.if-marks_clash.false))
