use mathlib.Core.Path.{ap, ◌∙◌}
use Rattle.zamoluvel.specs.Need.{need_code_lem, figure_in_lem}
use Rattle.zamoluvel.proofs.need.zamoluvel_figure.Goals as goal

pub returns : goal.returns
returns c = record { value = c.need_code.ensures ∙ ap need_code_lem c.figure-answer.ensures; needed_after = c.figure_in.ensures ∙ ap figure_in_lem c.figure-answer.ensures }
