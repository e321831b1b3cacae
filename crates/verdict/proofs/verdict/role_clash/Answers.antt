use mathlib.Core.Path.{◌∙◌}
use mathlib.Core.Bool.{false}
use Rattle.verdict.proofs.verdict.Clashes.{rows_clash_blank}
use Rattle.verdict.proofs.verdict.role_clash.Goals as goal

pub returns : goal.returns
returns c = c.rows_clash.ensures ∙ rows_clash_blank 2048 c.args.size c.args.disjoint.now false c.requires.table.sized c.role_markers.ensures
