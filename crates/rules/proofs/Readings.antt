-- The table of runs that name a reader holds: each row by a computed test.
use mathlib.Core.Path.{◌≡◌, refl}
use mathlib.Core.Bool.{Bool, true, ◌&&◌}
use mathlib.Core.List.{List, [], ◌∷◌}
use Rattle.book.specs.Role.{role_of_lem}
use Rattle.book.specs.Read.{several}
use Rattle.book.specs.Field.{byte, two_bytes_lem, four_bytes, field, fields_from, fields}
use Rattle.book.specs.Table.{statement_allows_lem}
use Rattle.book.specs.Header.{header}
use Rattle.book.specs.Concept.{concept_start_lem, part_list, bound, concept_tail_lem, concept_rest_lem, concept}
use Rattle.book.specs.Statement.{statement_start_lem, path_of_lem, axiom_of_lem, statement_end_lem, statement_rest_lem, statement}
use Rattle.book.specs.Tree.{part_trees}
use Rattle.book.specs.Book.{concepts, book, decode}
use Rattle.book.specs.Within.{Every}
use Rattle.rules.specs.Fact.{edge, type, pair}
use Rattle.rules.specs.Brought.{atomics, values, markers}
use Rattle.rules.specs.Meaning.{rules}
use Rattle.rules.specs.Same.{same_pair}
use Rattle.rules.specs.Clash.{marked, type_clash, marker_clash, clashes}
use Rattle.rules.specs.Lists.{types, edges, pairs, used}
use Rattle.rules.specs.Ends.{outcome_from}
use Rattle.rules.specs.Spoken.{readable, in_force_lem, heeded, heedings, decode_for}
use Rattle.rules.specs.Bars.{nines, expected}
use Rattle.rules.specs.Readings.{Reading, Holds, readings}
use Rattle.rules.proofs.Tests.{and_both}
use Rattle.rules.proofs.Spoken.{for_inside}
use Rattle.rules.proofs.Bars.{test_row, row_holds}

unfoldable test : Reading → Bool
test x = let d = decode_for x.reads x.run.book in test_row d x.run.facts x.run.budget (nines x.run.type_room) (nines x.run.edge_room) (nines x.run.pair_room) (expected x.run)

reading_holds : (x : Reading) → test x ≡ true → Holds x
unfolding test
reading_holds x e = row_holds (decode_for x.reads x.run.book) (for_inside x.reads x.run.book) x.run.facts x.run.budget (nines x.run.type_room) (nines x.run.edge_room) (nines x.run.pair_room) (expected x.run) e

abbrev tests : List Reading → Bool
tests [] = true
tests (x ∷ xs) = test x && tests xs

all_hold : (xs : List Reading) → tests xs ≡ true → Every Holds xs
all_hold [] e = tt
all_hold (x ∷ xs) e = let a = and_both (test x) (tests xs) e in (reading_holds x a.0, all_hold xs a.1)

tests_come_out : tests readings ≡ true
unfolding test readings role_of_lem several byte two_bytes_lem four_bytes field fields_from fields statement_allows_lem header concept_start_lem part_list bound concept_tail_lem concept_rest_lem concept statement_start_lem path_of_lem axiom_of_lem statement_end_lem statement_rest_lem statement part_trees concepts book decode edge type pair atomics values markers rules same_pair marked type_clash marker_clash clashes types edges pairs used outcome_from readable in_force_lem heeded heedings decode_for
tests_come_out = refl

pub table : Every Holds readings
table = all_hold readings tests_come_out
