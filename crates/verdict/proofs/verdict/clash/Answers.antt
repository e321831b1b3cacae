use Rattle.said.specs.declared.layout.Relation.TheVariants.{Functional, Disjoint, Takers}
use Rattle.said.proofs.layout.Parts.{part_room}
use Rattle.verdict.proofs.verdict.Clashes.{clash_rows, clash_markers}
use Rattle.verdict.proofs.verdict.clash.Goals as goal

pub rows_clash-requires : goal.rows_clash-requires
rows_clash-requires c = (c.requires.table.sized, rw (c.rows_of.ensures.0, c.class_field.ensures) c.requires.table.room, part_room _ Disjoint _ c.requires.placed.1 c.part_of-disjoint.ensures)

pub returns-then-rows_clash : goal.returns-then-rows_clash
returns-then-rows_clash c = clash_rows _ _ _ _ c.part_of-disjoint.ensures (rw (c.rows_of.ensures.0, c.class_field.ensures) at c.rows_clash.ensures) c.if-rows_clash.true

pub markers_clash-requires : goal.markers_clash-requires
markers_clash-requires c = record { table = c.requires.table; n_in_bounds = (c.requires.placed.2, c.requires.placed.0.concepts, part_room _ Takers _ c.requires.placed.1 c.part_of-takers.ensures); classes_in_bounds = part_room _ Disjoint _ c.requires.placed.1 c.part_of-disjoint.ensures; in_bounds = part_room _ Functional _ c.requires.placed.1 c.part_of-functional.ensures }

pub returns : goal.returns
returns c =
    clash_markers _ _ _ _ c.part_of-disjoint.ensures (rw (c.rows_of.ensures.0, c.class_field.ensures) at c.rows_clash.ensures)
    c.part_of-takers.ensures c.part_of-functional.ensures c.if-rows_clash.false c.markers_clash.ensures
