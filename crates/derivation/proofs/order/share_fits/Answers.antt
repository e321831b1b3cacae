use mathlib.Core.Path.{refl, sym, ◌∙◌}
use Rattle.derivation.specs.Fits.{any_order}
use Rattle.derivation.proofs.order.share_fits.Goals as goal

pub returns-then-share_from : goal.returns-then-share_from
unfolding any_order
returns-then-share_from c = λ B t. rw (sym (c.share_from.ensures B t) ∙ c.if-share_from.true) refl

pub returns-then-share_from-2 : goal.returns-then-share_from-2
unfolding any_order
returns-then-share_from-2 c = λ B t. rw (sym (c.share_from.ensures B t) ∙ c.if-share_from.false, sym (c.share_from-2.ensures B t) ∙ c.if-share_from-2.true) refl

pub returns : goal.returns
unfolding any_order
returns c =
    λ B t. rw (sym (c.share_from.ensures B t) ∙ c.if-share_from.false, sym (c.share_from-2.ensures B t) ∙ c.if-share_from-2.false)
    (c.share_from-3.ensures B t)
