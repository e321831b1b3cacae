use native.Mathlib.Omega.{arith}
use Rattle.tables.proofs.Open.{open_limits}
use Rattle.derivation.proofs.Preparing.{deep_blank, ready_of}
use Rattle.derivation.proofs.check.judge_deep.Goals as goal

pub fill_slots-requires : goal.fill_slots-requires
fill_slots-requires c = (c.requires.stated.leaves.room, (open_limits c.requires.stated.opened).concepts_top, c.requires.slots_len.0)

pub fill_deep-requires : goal.fill_deep-requires
fill_deep-requires c = record { leaves = c.requires.stated.leaves; slotted = (c.fill_slots.ensures.0, c.fill_slots.ensures.1, omega (arith, (open_limits c.requires.stated.opened).concepts_top, c.requires.slots_len.1)); deep = deep_blank c.requires.blank }

pub judge-requires : goal.judge-requires
judge-requires c = ready_of c.requires.stated c.requires.denied c.fill_slots.ensures.1 (omega (arith, c.fill_deep.ensures.1, c.requires.slots_len.1)) c.fill_slots.ensures.0 c.fill_deep.ensures.0
