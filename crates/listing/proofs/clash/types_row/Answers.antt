use Rattle.steps.proofs.Putting.{listed_sized, listed_limits, listed_room, listed_number, listed_place}
use Rattle.listing.proofs.Clashes.{type_can, clash_put}
use Rattle.listing.proofs.clash.types_row.Goals as goal

pub type_field-requires : goal.type_field-requires
type_field-requires c = rw c.size_of-size.ensures (listed_sized c.requires.listed)

pub type_field-requires-2 : goal.type_field-requires-2
type_field-requires-2 c = rw c.size_of-size.ensures (listed_sized c.requires.listed)

pub number_of-requires : goal.number_of-requires
number_of-requires c = rw (c.type_field.ensures, c.size_of-size.ensures) (listed_sized c.requires.listed, type_can c.requires.listed.table _ _ c.requires.two.at c.requires.two.one)

pub place_of-first-requires : goal.place_of-first-requires
place_of-first-requires c = record { limits = rw (c.number_of.ensures, c.type_field.ensures, c.size_of-size.ensures) ((listed_limits c.requires.listed, listed_room c.requires.listed, listed_number c.requires.listed _ _ _ (type_can c.requires.listed.table _ _ c.requires.two.at c.requires.two.one))); by_index = rw (c.number_of.ensures, c.type_field.ensures, c.size_of-size.ensures) (listed_place c.requires.listed _ _ _ (type_can c.requires.listed.table _ _ c.requires.two.at c.requires.two.one) c.requires.two.has_one) }

pub number_of-requires-2 : goal.number_of-requires-2
number_of-requires-2 c = rw (c.type_field-2.ensures, c.size_of-size.ensures) (listed_sized c.requires.listed, type_can c.requires.listed.table _ _ c.requires.two.at c.requires.two.other)

pub place_of-second-requires : goal.place_of-second-requires
place_of-second-requires c = record { limits = rw (c.number_of-2.ensures, c.type_field-2.ensures, c.size_of-size.ensures) ((listed_limits c.requires.listed, listed_room c.requires.listed, listed_number c.requires.listed _ _ _ (type_can c.requires.listed.table _ _ c.requires.two.at c.requires.two.other))); by_index = rw (c.number_of-2.ensures, c.type_field-2.ensures, c.size_of-size.ensures) (listed_place c.requires.listed _ _ _ (type_can c.requires.listed.table _ _ c.requires.two.at c.requires.two.other) c.requires.two.has_other) }

pub returns : goal.returns
returns c m p =
    let i = rw (c.number_of.ensures, c.type_field.ensures, c.size_of-size.ensures) at c.place_of-first.ensures in
    let j = rw (c.number_of-2.ensures, c.type_field-2.ensures, c.size_of-size.ensures) at c.place_of-second.ensures in
    clash_put c.requires.listed c.args.book.opened c.requires.pairs_of c.requires.two i j p
