use mathlib.Core.Path.{sym, ◌∙◌}
use Rattle.verdict.proofs.verdict.Searches.{meets_any}
use Rattle.verdict.proofs.verdict.rows_meet.Goals as goal

pub returns-then-may_clash : goal.returns-then-may_clash
returns-then-may_clash c = rw (sym c.may_clash.ensures ∙ c.if-may_clash.true) (meets_any c.meets.ensures)
