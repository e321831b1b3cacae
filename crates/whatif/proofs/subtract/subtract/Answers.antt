use native.Mathlib.Omega.{arith}
use mathlib.Core.Path.{refl, sym, ◌∙◌}
use Rattle.whatif.proofs.Minus.{walk_start, walk_room, walk_other, walk_low, walk_few, walk_on, walk_end, standing_room, went_len}
use Rattle.whatif.proofs.subtract.subtract.Goals as goal

pub loop-i-init : goal.loop-i-init
loop-i-init c = (λ xs ys s t. walk_start s t, refl)

pub pass_row-place-requires : goal.pass_row-place-requires
pass_row-place-requires c = let w = c.loop-i.invariant.0 c.requires.by_index.0.0 c.requires.by_index.1.0 c.requires.by_index.0.1 c.requires.by_index.1.1 in record { kept_le_i = (w.few, omega (arith, walk_room w c.loop-i-test.true, standing_room c.requires.by_index.0.1, c.loop-i.invariant.1), standing_room c.requires.by_index.1.1); width_bound = (λ h. walk_other w h, walk_low w) }

pub overflow_add-i : goal.overflow_add-i
overflow_add-i c =
    let w = c.loop-i.invariant.0 c.requires.by_index.0.0 c.requires.by_index.1.0 c.requires.by_index.0.1 c.requires.by_index.1.1 in
    record { fits = omega (arith, walk_room w c.loop-i-test.true) }

pub loop-i-smaller : goal.loop-i-smaller
loop-i-smaller c = omega (arith, c.loop-i-test.true, c.requires.width_nonzero)

pub loop-i-preserved : goal.loop-i-preserved
loop-i-preserved c = (λ xs ys a b. walk_on c.requires.width_nonzero (c.loop-i.invariant.0 xs ys a b) c.loop-i-test.true c.pass_row-place.ensures, went_len c.pass_row-place.ensures ∙ c.loop-i.invariant.1)

pub clear-requires : goal.clear-requires
clear-requires c =
    let w = c.loop-i.invariant.0 c.requires.by_index.0.0 c.requires.by_index.1.0 c.requires.by_index.0.1 c.requires.by_index.1.1 in
    omega (arith, walk_few w, standing_room c.requires.by_index.0.1, c.loop-i.invariant.1)

pub shape_of-list : goal.shape_of-list
shape_of-list c = c.list-2-1.given ∙ c.loop-i.invariant.1

pub returns : goal.returns
returns c = (λ xs ys a b. walk_end c.requires.width_nonzero (c.loop-i.invariant.0 xs ys a b) c.loop-i-test.false (sym c.loop-i.invariant.1) c.clear.ensures, walk_few (c.loop-i.invariant.0 c.requires.by_index.0.0 c.requires.by_index.1.0 c.requires.by_index.0.1 c.requires.by_index.1.1))
