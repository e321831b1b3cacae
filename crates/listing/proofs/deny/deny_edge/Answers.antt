use native.Mathlib.Omega.{arith}
use Rattle.steps.proofs.Putting.{listed_sized, listed_limits, listed_room, listed_number, listed_place}
use Rattle.denial.proofs.Left.{field_low, led_room}
use Rattle.listing.proofs.Denials.{passes, edge_can, edge_quiet, edge_there}
use Rattle.listing.proofs.deny.deny_edge.Goals as goal

pub row_of-requires : goal.row_of-requires
row_of-requires c = rw (c.size_of-size.ensures, c.field_of-f.ensures) (listed_sized c.requires.listed, field_low c.args.counts c.args.role c.requires.role_within.0, omega (arith, c.requires.role_within.1, (listed_limits c.requires.listed).individuals_top))

pub member-requires : goal.member-requires
member-requires c = rw (c.row_of.ensures.0, c.size_of-size.ensures, c.field_of-f.ensures) (led_room c.args.counts c.requires.listed.table c.args.role c.args.a c.requires.role_within.0 c.requires.role_within.1, omega (arith, c.requires.role_within.2, (listed_limits c.requires.listed).individuals_top))

pub returns-then-not-member : goal.returns-then-not-member
returns-then-not-member c =
    let k = rw (c.size_of-size.ensures, c.field_of-f.ensures) at c.row_of.ensures.0 in
    edge_quiet c.requires.listed c.args.role c.args.a c.args.b c.requires.role_within.0 c.requires.role_within.1 c.requires.role_within.2 (rw k at c.member.ensures) c.if-not-member.true-raw

pub number_of-requires : goal.number_of-requires
number_of-requires c = rw (c.size_of-size.ensures, c.field_of-f.ensures) (listed_sized c.requires.listed, edge_can c.requires.listed c.args.role c.args.a c.args.b c.requires.role_within.0 c.requires.role_within.1 c.requires.role_within.2)

pub place_of-requires : goal.place_of-requires
place_of-requires c =
    let k = rw (c.size_of-size.ensures, c.field_of-f.ensures) at c.row_of.ensures.0 in
    let a = edge_can c.requires.listed c.args.role c.args.a c.args.b c.requires.role_within.0 c.requires.role_within.1 c.requires.role_within.2 in record { limits = rw (c.number_of.ensures, c.size_of-size.ensures, c.field_of-f.ensures) ((listed_limits c.requires.listed, listed_room c.requires.listed, listed_number c.requires.listed _ _ _ a)); by_index = rw (c.number_of.ensures, c.size_of-size.ensures, c.field_of-f.ensures) (listed_place c.requires.listed _ _ _ a (passes (rw k at c.member.ensures) c.if-not-member.false-raw)) }

pub returns : goal.returns
returns c = edge_there c.requires.listed c.args.role c.args.a c.args.b c.requires.role_within.0 c.requires.role_within.1 c.requires.role_within.2 _ (rw (c.number_of.ensures, c.size_of-size.ensures, c.field_of-f.ensures) at c.place_of.ensures)
