use native.Mathlib.Omega.{arith}
use Rattle.derivation.proofs.Leaves.{own_sum, own_room, own_put}
use Rattle.derivation.proofs.deep.put_own.Goals as goal

pub overflow_cast-k : goal.overflow_cast-k
overflow_cast-k c = omega (arith, c.shared_slice_known-4-1.given c.slot_of.result)

pub overflow_add-d : goal.overflow_add-d
overflow_add-d c = own_sum c.requires.0 _ c.args.d c.slot_of.ensures.0 c.requires.4 c.requires.3

pub insert-requires : goal.insert-requires
insert-requires c = own_room c.requires.0 _ c.args.d c.slot_of.ensures.0 c.requires.4 c.requires.3 (omega (arith, c.requires.5))

pub returns : goal.returns
returns c = own_put c.args.leaves.now c.args.slots.now _ c.args.d c.slot_of.ensures.0 c.insert.ensures
