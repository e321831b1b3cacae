use mathlib.Core.Path.{refl, sym, ◌∙◌}
use Rattle.rules.proofs.Tests.{false_true}
use Rattle.whatif.proofs.stay.lessen.Goals as goal

pub remove-requires : goal.remove-requires
remove-requires c = c.requires c.if-moved.true

pub returns-then-moved : goal.returns-then-moved
returns-then-moved c = record { same = c.remove.ensures.same; more_pairs_after = λ e. false_true (sym e ∙ c.if-moved.true); more_pairs_after_2 = λ e. c.remove.ensures.more_pairs_after; more_pairs_after_3 = λ e. c.remove.ensures.more_pairs_after_2 }

pub returns : goal.returns
returns c = record { same = record { types = refl; edges = refl; pairs = refl }; more_pairs_after = λ e. refl; more_pairs_after_2 = λ e. false_true (sym c.if-moved.false ∙ e); more_pairs_after_3 = λ e. false_true (sym c.if-moved.false ∙ e) }
