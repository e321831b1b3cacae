use native.Mathlib.Omega.{arith}
use mathlib.Core.Path.{sym}
use Rattle.steps.proofs.Putting.{listed_sized, listed_limits}
use Rattle.drawing.proofs.Sharing.{labels_apart, apart_up}
use Rattle.listing.proofs.Denials.{passes, pair_told, pair_quiet, pair_up, pair_down}
use Rattle.listing.proofs.deny.deny_pair.Goals as goal

pub returns-then-labels-i : goal.returns-then-labels-i
returns-then-labels-i c = pair_told c.requires.listed _ _ c.requires.labels_of c.requires.individuals_in_bounds.1 c.requires.individuals_in_bounds.2 c.if-labels-i.true

pub class_row-requires : goal.class_row-requires
class_row-requires c = rw c.size_of.ensures (listed_sized c.requires.listed, omega (arith, c.requires.individuals_in_bounds.1, (listed_limits c.requires.listed).individuals_top))

pub member-requires : goal.member-requires
member-requires c = let e = rw c.size_of.ensures at c.class_row.ensures.0 in omega (arith, e, c.requires.individuals_in_bounds.1, c.requires.individuals_in_bounds.2, c.requires.listed.classes, (listed_limits c.requires.listed).individuals_top)

pub returns-then-not-member : goal.returns-then-not-member
returns-then-not-member c = let e = rw c.size_of.ensures at c.class_row.ensures.0 in pair_quiet c.requires.listed _ _ c.requires.individuals_in_bounds.1 c.requires.individuals_in_bounds.2 (rw e at c.member.ensures) c.if-not-member.true-raw

pub pair_place-requires : goal.pair_place-requires
pair_place-requires c = let e = rw c.size_of.ensures at c.class_row.ensures.0 in record { listed = c.requires.listed; i_lt_j = (c.if-i-j.true, c.requires.individuals_in_bounds.2, passes (rw e at c.member.ensures) c.if-not-member.false-raw, labels_apart _ _ c.requires.labels_of c.requires.individuals_in_bounds.1 c.requires.individuals_in_bounds.2 c.if-labels-i.false) }

pub returns-then-i-j : goal.returns-then-i-j
returns-then-i-j c = pair_up c.requires.listed _ _ _ c.pair_place.ensures

pub pair_place-requires-2 : goal.pair_place-requires-2
pair_place-requires-2 c = let e = rw c.size_of.ensures at c.class_row.ensures.0 in record { listed = c.requires.listed; i_lt_j = (apart_up _ _ _ (labels_apart _ _ c.requires.labels_of c.requires.individuals_in_bounds.1 c.requires.individuals_in_bounds.2 c.if-labels-i.false) c.if-i-j.false, c.requires.individuals_in_bounds.1, c.requires.listed.turn _ _ c.requires.individuals_in_bounds.1 c.requires.individuals_in_bounds.2 (passes (rw e at c.member.ensures) c.if-not-member.false-raw), labels_apart _ _ c.requires.labels_of c.requires.individuals_in_bounds.2 c.requires.individuals_in_bounds.1 (λ e. c.if-labels-i.false (sym e))) }

pub returns : goal.returns
returns c = pair_down c.requires.listed _ _ _ c.pair_place-2.ensures
