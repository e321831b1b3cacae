use mathlib.Core.Path.{◌∙◌}
use Rattle.verdict.proofs.verdict.Clashes.{row_clash_taken}
use Rattle.verdict.proofs.verdict.row_clash.Goals as goal

pub returns : goal.returns
returns c = c.mask_clash.ensures ∙ row_clash_taken c.args.size c.args.disjoint.now c.args.own c.args.base c.args.c c.requires.sized.0 c.gather.ensures
