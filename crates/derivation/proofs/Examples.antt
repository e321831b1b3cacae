-- The worked rows, computed.
use mathlib.Core.Path.{◌≡◌, refl, ap}
use mathlib.Core.Bool.{Bool, true, false, ◌&&◌}
use mathlib.Core.List.{List, [], ◌∷◌}
use lib.Dec.{eqb}
use borrow.Author.Tests.{eqb-true}
use Rattle.book.specs.Role.{role_of_lem}
use Rattle.book.specs.Read.{several}
use Rattle.book.specs.Field.{byte, two_bytes_lem, four_bytes, field, fields_from, fields}
use Rattle.book.specs.Table.{statement_allows_lem}
use Rattle.book.specs.Header.{header}
use Rattle.book.specs.Concept.{concept_start_lem, part_list, bound, concept_tail_lem, concept_rest_lem, concept}
use Rattle.book.specs.Statement.{statement_start_lem, path_of_lem, axiom_of_lem, statement_end_lem, statement_rest_lem, statement}
use Rattle.book.specs.Tree.{part_trees}
use Rattle.book.specs.Book.{concepts, book, decode}
use Rattle.book.specs.Within.{Every}
use Rattle.rules.specs.Fact.{edge, type, pair}
use Rattle.rules.specs.Brought.{atomics, values, markers}
use Rattle.rules.specs.ToldSame.{labels, label, same}
use Rattle.rules.specs.Clash.{marked, type_clash, marker_clash}
use Rattle.rules.proofs.Tests.{false_true, and_both}
use Rattle.derivation.specs.Rows.{row_at, claim, named, earlier}
use Rattle.derivation.specs.Accept.{by_statement_lem, by_sharing_lem, denies, by_clash_lem, accepts, standing, stands, Judged, stand_rows, faulty_book, judged}
use Rattle.derivation.specs.Examples.{worked, clashing, joined, differing, denying, Example, Holds, examples}

abbrev pub same_answer : Judged → Judged → Bool
same_answer (stand_rows n) (stand_rows m) = eqb n m
same_answer (faulty_book n) (faulty_book m) = eqb n m
same_answer (stand_rows n) (faulty_book m) = false
same_answer (faulty_book n) (stand_rows m) = false

answer_true : (x y : Judged) → same_answer x y ≡ true → x ≡ y
answer_true (stand_rows n) (stand_rows m) e = ap stand_rows (eqb-true n m e)
answer_true (faulty_book n) (faulty_book m) e = ap faulty_book (eqb-true n m e)
answer_true (stand_rows n) (faulty_book m) e = false_true e
answer_true (faulty_book n) (stand_rows m) e = false_true e

unfoldable tests : List Example → Bool
tests [] = true
tests (x ∷ xs) = same_answer (judged x.book x.rows) x.answer && tests xs

all_hold : (xs : List Example) → tests xs ≡ true → Every Holds xs
unfolding tests
all_hold [] e = tt
all_hold (x ∷ xs) e = let a = and_both (same_answer (judged x.book x.rows) x.answer) (tests xs) e in (answer_true (judged x.book x.rows) x.answer a.0, all_hold xs a.1)

tests_come_out : tests examples ≡ true
unfolding tests examples worked clashing joined differing denying role_of_lem several byte two_bytes_lem four_bytes field fields_from fields statement_allows_lem header concept_start_lem part_list bound concept_tail_lem concept_rest_lem concept statement_start_lem path_of_lem axiom_of_lem statement_end_lem statement_rest_lem statement part_trees concepts book decode edge type pair atomics values markers labels label same marked type_clash marker_clash denies row_at claim named earlier by_statement_lem by_sharing_lem by_clash_lem accepts standing stands judged
tests_come_out = refl

-- the whole table
pub table : Every Holds examples
table = all_hold examples tests_come_out
