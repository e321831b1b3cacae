use borrow.Author.Rules.{rules}
use native.Mathlib.Omega.{arith}
use mathlib.Core.Path.{◌≡◌}
use Rattle.derivation.proofs.Leaves.{slotted_none, slotted_more}
use lib.ListN.{length-set}
use Rattle.derivation.proofs.deep.fill_slots.Goals as goal

pub loop-k-init : goal.loop-k-init
loop-k-init c = (omega arith, search rules, slotted_none)

pub loop-k-preserved : goal.loop-k-preserved
loop-k-preserved c = (omega arith, simp length-set c.loop-k.invariant.1, slotted_more c.slot_of.ensures.0 (omega (arith, c.slot_of.ensures.1, c.loop-k.invariant.1)) c.loop-k.invariant.2)

pub shape_of-slots : goal.shape_of-slots
shape_of-slots c = omega arith

pub returns : goal.returns
returns c =
    let e : c.loop-k.k ≡ c.args.n = omega arith in
    (rw e at c.loop-k.invariant.2, c.loop-k.invariant.1)
