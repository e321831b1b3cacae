use mathlib.Core.Path.{ap, ◌∙◌}
use mathlib.Core.Bool.{Bool}
use Rattle.tables.proofs.Open.{open_limits}
use Rattle.said.specs.declared.layout.Relation.TheVariants.{Groups}
use Rattle.said.proofs.layout.Places.{placed_of}
use Rattle.said.proofs.layout.Parts.{part_room}
use Rattle.rules.specs.Ends.{Finished}
use Rattle.member.specs.Answer.{judged}
use Rattle.judge.proofs.Agree.{not_finished}
use Rattle.judge.proofs.answer.give_answer.Goals as goal

pub returns-in_default : goal.returns-in_default
returns-in_default c = not_finished c.args.end _ c.in_default.in_default-own.keys2

pub part_of-groups-requires : goal.part_of-groups-requires
part_of-groups-requires c = rw c.layout_of.ensures (placed_of (open_limits c.args.book.opened), c.requires.counts_in_bounds)

pub is_shown-shown-requires : goal.is_shown-shown-requires
is_shown-shown-requires c = let e = rw c.layout_of.ensures at c.part_of-groups.ensures in record { ready = record { book = c.args.book.opened; laid = record { table = c.requires.table; groups = part_room _ Groups _ c.requires.counts_in_bounds e } }; concept_lt_concepts = c.requires.concept_lt_concepts }

pub returns : goal.returns
returns c =
    let e = rw c.layout_of.ensures at c.part_of-groups.ensures in
    rw c.in-Finished.is (c.finished.ensures ∙ ap (λ (b : Bool). judged b (Finished c.in-Finished.types c.in-Finished.edges c.in-Finished.pairs)) (rw e at c.is_shown-shown.ensures))
