use native.Mathlib.Omega.{arith}
use mathlib.Core.Path.{◌≡◌, refl, ◌∙◌}
use Rattle.derivation.proofs.deep.fill_deep.Goals as goal

pub loop-d-init : goal.loop-d-init
loop-d-init c = (omega arith, refl, c.requires.deep)

pub deep_row-requires : goal.deep_row-requires
deep_row-requires c = record { leaves = c.requires.leaves; slotted = (c.requires.slotted.0, c.requires.slotted.1, omega arith, omega (arith, c.loop-d.invariant.1, c.requires.slotted.2)); deep = c.loop-d.invariant.2 }

pub loop-d-preserved : goal.loop-d-preserved
loop-d-preserved c = (omega arith, c.deep_row.ensures.1 ∙ c.loop-d.invariant.1, c.deep_row.ensures.0)

pub shape_of-deep : goal.shape_of-deep
shape_of-deep c = c.loop-d.invariant.1

pub returns : goal.returns
returns c =
    let e : c.loop-d.d ≡ c.args.book.counts.concepts = omega arith in
    (rw e at c.loop-d.invariant.2, c.loop-d.invariant.1)
