use mathlib.Core.Path.{refl, sym, ◌∙◌}
use Rattle.derivation.proofs.order.alone_fits.Goals as goal

pub returns-then-fits : goal.returns-then-fits
returns-then-fits c = λ B t. rw (sym (c.fits.ensures B t) ∙ c.if-fits.true) refl

pub returns-then-fits-2 : goal.returns-then-fits-2
returns-then-fits-2 c = λ B t. rw (sym (c.fits.ensures B t) ∙ c.if-fits.false, sym (c.fits-2.ensures B t) ∙ c.if-fits-2.true) refl

pub returns : goal.returns
returns c =
    λ B t. rw (sym (c.fits.ensures B t) ∙ c.if-fits.false, sym (c.fits-2.ensures B t) ∙ c.if-fits-2.false)
    (c.fits-3.ensures B t)
