use mathlib.Core.Path.{sym, ◌∙◌, subst}
use Rattle.book.specs.Header.{Limits}
use Rattle.rules.proofs.Tests.{false_true}
use Rattle.said.proofs.layout.Places.{placed_of}
use Rattle.whatif.proofs.stay.read_on.Goals as goal

pub returns-then-again : goal.returns-then-again
returns-then-again c = record { same = c.read_off.ensures.same; pairs_after = λ e. c.read_off.ensures.outcome; pairs_after_2 = λ e. false_true (sym e ∙ c.if-again.true) }

pub stay-requires : goal.stay-requires
stay-requires c = record { table = rw c.layout_of.ensures (c.requires.inside.3.kept.table); placed = rw c.layout_of.ensures ((placed_of (subst Limits c.requires.inside.2 c.requires.inside.1.limits), c.requires.counts_in_bounds.0, c.requires.counts_in_bounds.1)) }

pub returns : goal.returns
returns c = record { same = c.stay.ensures.same; pairs_after = λ e. false_true (sym c.if-again.false ∙ e); pairs_after_2 = λ e. rw c.layout_of.ensures at c.stay.ensures.outcome }
