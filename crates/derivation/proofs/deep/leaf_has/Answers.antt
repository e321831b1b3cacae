use native.Mathlib.Omega.{arith}
use Rattle.derivation.proofs.Slots.{leaf_found, leaf_past}
use Rattle.derivation.proofs.deep.leaf_has.Goals as goal

pub overflow_cast-k : goal.overflow_cast-k
overflow_cast-k c = omega (arith, c.shared_slice_known-1.given c.args.y)

pub returns-then-k-counts : goal.returns-then-k-counts
returns-then-k-counts c = leaf_found _ _ _ _ c.args.d c.args.y _ _ c.if-k-counts.true c.slot_of.ensures.0 c.member.ensures

pub returns : goal.returns
returns c = leaf_past _ c.args.concepts.leaves.now _ c.args.concepts.deep.now c.args.d c.args.y c.if-k-counts.false
