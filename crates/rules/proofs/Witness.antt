-- Demand 3 on plain books is about something: a book of the table is plain and its run finishes, so there is a world that fits it and has
-- no fact that is not listed.
use mathlib.Core.Path.{◌≡◌, refl, ap}
use mathlib.Core.List.{[], ◌∷◌}
use Rattle.book.specs.Role.{role_of_lem}
use Rattle.book.specs.Read.{several}
use Rattle.book.specs.Field.{byte, two_bytes_lem, four_bytes, field, fields_from, fields}
use Rattle.book.specs.Table.{statement_allows_lem}
use Rattle.book.specs.Header.{header}
use Rattle.book.specs.Concept.{concept_start_lem, part_list, bound, concept_tail_lem, concept_rest_lem, concept}
use Rattle.book.specs.Statement.{statement_start_lem, path_of_lem, axiom_of_lem, bare, statement_end_lem, statement_rest_lem, statement}
use Rattle.book.specs.Tree.{Atomic, Top, Nominal, Some, And, none, more, part_trees}
use Rattle.book.specs.Book.{Book, concepts, book, accepted, decode}
use Rattle.book.specs.declared.role.Role.TheVariants.{Named, Inverse}
use Rattle.book.specs.declared.statement.SubRolePath.TheVariants.{One}
use Rattle.book.specs.declared.statement.Axiom.TheVariants.{SubClassOf, EquivalentClasses, DisjointClasses, SubObjectPropertyOf, ObjectPropertyDomain, FunctionalRole, SameIndividual, ClassAssertion, ObjectPropertyAssertion, DifferentIndividuals, NegativeObjectPropertyAssertion}
use Rattle.rules.specs.Ends.{Finished, Outcome, outcome}
use Rattle.rules.specs.Plain.{an_atomic, simple_atomic, simple_top, simple_value, nested_one, nested_and, nested_none, nested_more, Plain}
use Rattle.rules.specs.Demand.{UnlistedFalse}
use Rattle.rules.specs.Bars.{nines, plain_bar}
use Rattle.rules.proofs.Bars.{plain_holds}
use Rattle.rules.proofs.Demand.{demand}

abbrev pub B : Book
B = record {
  counts = record { classes = 4; roles = 2; individuals = 4; concepts = 13; statements = 12 };
  concepts =
      Atomic 0 ∷ Atomic 1 ∷ Atomic 2 ∷ Atomic 3 ∷ Top ∷ Nominal 2 ∷ Some (Named 1) (Nominal 2)
      ∷ And (more Top (more (Some (Named 1) (Nominal 2)) none))
      ∷ And (more (Atomic 1) (more (And (more Top (more (Some (Named 1) (Nominal 2)) none))) none))
      ∷ And (more (Atomic 0) none)
      ∷ And (more (And (more (Atomic 0) none)) (more Top none))
      ∷ And (more (Atomic 2) none)
      ∷ And (more (And (more (Atomic 2) none)) none)
      ∷ [];
  statements =
      bare (SubClassOf 0 8)
      ∷ bare (EquivalentClasses 1 2)
      ∷ bare (DisjointClasses 0 3)
      ∷ bare (SubObjectPropertyOf (One (Inverse 0)) (Named 1))
      ∷ bare (ObjectPropertyDomain (Inverse 0) 12)
      ∷ bare (FunctionalRole (Named 0))
      ∷ bare (SameIndividual 0 1)
      ∷ bare (ClassAssertion 10 0)
      ∷ bare (ObjectPropertyAssertion (Named 0) 0 2)
      ∷ bare (ObjectPropertyAssertion (Named 0) 1 3)
      ∷ bare (DifferentIndividuals 0 2)
      ∷ bare (NegativeObjectPropertyAssertion (Named 0) 2 0)
      ∷ [];
}

decodes : decode plain_bar.book ≡ accepted B
unfolding plain_bar role_of_lem several byte two_bytes_lem four_bytes field fields_from fields statement_allows_lem header concept_start_lem part_list bound concept_tail_lem concept_rest_lem concept statement_start_lem path_of_lem axiom_of_lem statement_end_lem statement_rest_lem statement part_trees concepts book decode
decodes = refl

plain : Plain B
unfolding Plain
plain = (
  (an_atomic 0, nested_and (nested_more (nested_one (simple_atomic 1)) (nested_more (nested_and (nested_more (nested_one simple_top) (nested_more (nested_one (simple_value (Named 1) 2)) nested_none))) nested_none))),
  (
    (an_atomic 1, an_atomic 2),
    (
      (an_atomic 0, an_atomic 3),
      (
        tt,
        (
          nested_and (nested_more (nested_and (nested_more (nested_one (an_atomic 2)) nested_none)) nested_none),
          (
            tt,
            (
              tt,
              (
                nested_and (nested_more (nested_and (nested_more (nested_one (simple_atomic 0)) nested_none)) (nested_more (nested_one simple_top) nested_none)),
                (tt, (tt, (tt, (tt, tt)))),
              ),
            ),
          ),
        ),
      ),
    ),
  ),
)

abbrev run : Outcome
run = outcome plain_bar.book plain_bar.budget (nines plain_bar.type_room) (nines plain_bar.edge_room) (nines plain_bar.pair_room)

ended : run.end ≡ Finished 10 12 2
unfolding plain_bar
ended = ap (λ (o : Outcome). o.end) plain_holds

pub separated : UnlistedFalse B run 10 12 2
separated = (demand plain_bar.book plain_bar.budget (nines plain_bar.type_room) (nines plain_bar.edge_room) (nines plain_bar.pair_room) B decodes).plain_unlisted plain 10 12 2 ended
