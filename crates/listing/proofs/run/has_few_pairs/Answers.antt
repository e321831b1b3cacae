use Rattle.listing.proofs.Running.{fit_none, fit_few}
use Rattle.book.specs.Read.{as_read}
use native.Mathlib.Omega.{arith}
use mathlib.Core.Path.{ap, sym, ◌∙◌}
use Rattle.listing.proofs.run.has_few_pairs.Goals as goal

pub returns-in_default : goal.returns-in_default
returns-in_default g c = λ e. fit_none _ _ (sym c.header_at.ensures ∙ ap as_read c.in_default.is)

pub returns : goal.returns
returns g c = λ e. fit_few _ _ _ (sym c.header_at.ensures ∙ ap as_read c.in-Ok.is) (omega (arith, c.if-counts.false)) c.requires
