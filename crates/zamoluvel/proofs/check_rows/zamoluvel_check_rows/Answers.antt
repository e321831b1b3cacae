use mathlib.Core.Path.{ap, ◌∙◌}
use Rattle.zamoluvel.specs.Rows.{judged_code, judged_rows}
use Rattle.zamoluvel.proofs.check_rows.zamoluvel_check_rows.Goals as goal

pub returns : goal.returns
returns c = record { value = c.judgement_code.ensures ∙ ap judged_code c.check_rows-judgement.ensures; standing_after = c.rows_standing.ensures ∙ ap judged_rows c.check_rows-judgement.ensures }
