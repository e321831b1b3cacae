-- Books of 01, decoded by evaluation.
use Prim.Native.Nat.{ℕ}
use mathlib.Core.Path.{◌≡◌, refl}
use mathlib.Core.Bool.{Bool, true, ◌&&◌}
use mathlib.Core.List.{List, [], ◌∷◌}
use lib.Dec.{eqb}
use Rattle.book.specs.declared.role.Role.TheVariants.{Named}
use Rattle.book.specs.declared.statement.Axiom.TheVariants.{SubClassOf, FunctionalRole, ObjectPropertyRange, ClassAssertion, ObjectPropertyAssertion}
use Rattle.book.specs.Role.{role_of_lem}
use Rattle.book.specs.Read.{several}
use Rattle.book.specs.Field.{byte, two_bytes_lem, four_bytes, field, fields_from, fields}
use Rattle.book.specs.Table.{statement_allows_lem}
use Rattle.book.specs.Header.{header}
use Rattle.book.specs.Concept.{concept_start_lem, part_list, bound, concept_tail_lem, concept_rest_lem, concept}
use Rattle.book.specs.Statement.{statement_start_lem, path_of_lem, axiom_of_lem, bare, statement_end_lem, statement_rest_lem, statement}
use Rattle.book.specs.Tree.{Atomic, Nominal, Some, part_trees}
use Rattle.book.specs.Book.{Book, concepts, book, Decoded, accepted, refused, decode, passed_up_to, concepts_read}

-- no bytes, the one byte 00, and a written count 0
empty : decode [] ≡ refused 4
unfolding decode book header byte
empty = refl

zero_byte : decode (0x00 ∷ []) ≡ accepted (record { counts = record { classes = 0; roles = 0; individuals = 0; concepts = 0; statements = 0 }; concepts = []; statements = [] })
unfolding decode book header byte two_bytes_lem field fields_from fields concepts several
zero_byte = refl

written_zero : decode (0x01 ∷ 0x00 ∷ 0x00 ∷ []) ≡ refused 5
unfolding decode book header byte two_bytes_lem field fields_from fields concepts several
written_zero = refl

-- the worked book: seven individuals, four roles, one class
pub worked : List ℕ
worked =
    0x1F ∷ 1 ∷ 0 ∷ 4 ∷ 0 ∷ 7 ∷ 0 ∷ 3 ∷ 0 ∷ 10 ∷ 0
    ∷ 2 ∷ 0x01 ∷ 0 ∷ 0
    ∷ 3 ∷ 0x02 ∷ 6 ∷ 0
    ∷ 8 ∷ 0x0C ∷ 6 ∷ 0 ∷ 1 ∷ 0
    ∷ 8 ∷ 0x01 ∷ 0 ∷ 0 ∷ 0
    ∷ 8 ∷ 0x01 ∷ 0 ∷ 2 ∷ 0
    ∷ 11 ∷ 0x11 ∷ 0 ∷ 4 ∷ 0 ∷ 0 ∷ 0
    ∷ 1 ∷ 0x30 ∷ 0 ∷ 0 ∷ 0 ∷ 2 ∷ 0
    ∷ 13 ∷ 0x50 ∷ 0 ∷ 0 ∷ 0 ∷ 1 ∷ 0
    ∷ 14 ∷ 0xC1 ∷ 0 ∷ 0 ∷ 0 ∷ 0 ∷ 0 ∷ 1 ∷ 0
    ∷ 14 ∷ 0xC1 ∷ 0 ∷ 0 ∷ 0 ∷ 0 ∷ 0 ∷ 2 ∷ 0
    ∷ 14 ∷ 0xC1 ∷ 0 ∷ 2 ∷ 0 ∷ 3 ∷ 0 ∷ 2 ∷ 0
    ∷ 14 ∷ 0xC1 ∷ 0 ∷ 2 ∷ 0 ∷ 3 ∷ 0 ∷ 4 ∷ 0
    ∷ 14 ∷ 0xC1 ∷ 0 ∷ 4 ∷ 0 ∷ 5 ∷ 0 ∷ 4 ∷ 0
    ∷ []

pub worked_book : Book
worked_book =
    record {
      counts = record { classes = 1; roles = 4; individuals = 7; concepts = 3; statements = 10 };
      concepts = Atomic 0 ∷ Nominal 6 ∷ Some (Named 3) (Nominal 6) ∷ [];
      statements =
          bare (FunctionalRole (Named 0))
          ∷ bare (FunctionalRole (Named 1))
          ∷ bare (ObjectPropertyRange (Named 2) 0)
          ∷ bare (SubClassOf 0 2)
          ∷ bare (ClassAssertion 0 1)
          ∷ bare (ObjectPropertyAssertion (Named 0) 0 1)
          ∷ bare (ObjectPropertyAssertion (Named 0) 0 2)
          ∷ bare (ObjectPropertyAssertion (Named 1) 3 2)
          ∷ bare (ObjectPropertyAssertion (Named 1) 3 4)
          ∷ bare (ObjectPropertyAssertion (Named 2) 5 4)
          ∷ [];
    }

worked_decodes : decode worked ≡ accepted worked_book
unfolding worked worked_book decode book header concepts several concept concept_start_lem concept_rest_lem concept_tail_lem part_list bound statement statement_start_lem statement_rest_lem statement_end_lem axiom_of_lem path_of_lem statement_allows_lem role_of_lem fields fields_from field byte two_bytes_lem four_bytes part_trees
worked_decodes = refl

-- How many concept records stand before the first faulty one, in books of one class and two concepts.
abbrev with_concepts : List ℕ → List ℕ
with_concepts records = 0x09 ∷ 1 ∷ 0 ∷ 2 ∷ 0 ∷ records

abbrev readings : List ℕ
readings =
    concepts_read (with_concepts (2 ∷ 0x01 ∷ 0 ∷ 0 ∷ 2 ∷ 0x01 ∷ 0 ∷ 0 ∷ []))
    ∷ concepts_read (with_concepts (2 ∷ 0x01 ∷ 0 ∷ 0 ∷ 2 ∷ 0x01 ∷ 0 ∷ 0 ∷ 7 ∷ []))  -- a byte behind the book
    ∷ concepts_read (with_concepts (2 ∷ 0x01 ∷ 0 ∷ 0 ∷ 2 ∷ 0x01 ∷ 1 ∷ 0 ∷ []))  -- the second of a class that is not there
    ∷ concepts_read (with_concepts (2 ∷ 0x01 ∷ 1 ∷ 0 ∷ 2 ∷ 0x01 ∷ 0 ∷ 0 ∷ []))  -- the first
    ∷ concepts_read (0x29 ∷ 1 ∷ 0 ∷ 2 ∷ 0 ∷ 2 ∷ 0x01 ∷ 0 ∷ 0 ∷ 2 ∷ 0x01 ∷ 0 ∷ 0 ∷ [])  -- bit 5 of the header's map
    ∷ []

concepts_counted : readings ≡ 2 ∷ 2 ∷ 1 ∷ 0 ∷ 0 ∷ []
unfolding concepts_read passed_up_to header concepts concept concept_start_lem concept_rest_lem concept_tail_lem part_list bound fields fields_from field byte two_bytes_lem four_bytes part_trees
concepts_counted = refl

-- Sources and days: of a book of two individuals with one statement, `0 same as 1`, the high byte of its map and what stands behind its own fields, with
-- the refusal, or 0 where the book is accepted.
record Case : Type 0 where
  high : ℕ
  rest : List ℕ
  answer : ℕ

abbrev case : ℕ → List ℕ → ℕ → Case
case high rest answer = record { high = high; rest = rest; answer = answer }

abbrev answer_of : Decoded → ℕ
answer_of (accepted b) = 0
answer_of (refused n) = n

abbrev marked : Case → List ℕ
marked c = 0x14 ∷ 2 ∷ 0 ∷ 1 ∷ 0 ∷ 12 ∷ 0xC0 ∷ c.high ∷ 0 ∷ 0 ∷ 1 ∷ 0 ∷ c.rest

abbrev cases : List Case
cases =
    case 0 [] 0
    ∷ case 1 (1 ∷ 0 ∷ []) 0
    ∷ case 1 (255 ∷ 3 ∷ []) 0
    ∷ case 1 (0 ∷ 0 ∷ []) 5  -- a written source 0
    ∷ case 1 (0 ∷ 4 ∷ []) 9  -- source 1,024
    ∷ case 1 (255 ∷ 255 ∷ []) 9
    ∷ case 1 [] 4
    ∷ case 1 (0 ∷ []) 4
    ∷ case 1 (1 ∷ 0 ∷ 0 ∷ []) 10
    ∷ case 0 (1 ∷ 0 ∷ []) 10
    ∷ case 2 (1 ∷ 0 ∷ []) 0  -- a first day alone: 1, and the last of all
    ∷ case 2 (255 ∷ 255 ∷ []) 0
    ∷ case 2 (0 ∷ 0 ∷ []) 5  -- a written first day 0
    ∷ case 2 (0 ∷ []) 4
    ∷ case 4 (0 ∷ 0 ∷ []) 0  -- a last day alone: 0, and 65,534
    ∷ case 4 (254 ∷ 255 ∷ []) 0
    ∷ case 4 (255 ∷ 255 ∷ []) 5  -- a written last day 65,535
    ∷ case 4 (255 ∷ []) 4
    ∷ case 6 (7 ∷ 1 ∷ 7 ∷ 1 ∷ []) 0  -- a period of one day
    ∷ case 6 (1 ∷ 0 ∷ 254 ∷ 255 ∷ []) 0
    ∷ case 6 (7 ∷ 1 ∷ 6 ∷ 1 ∷ []) 16  -- the last day before the first
    ∷ case 6 (1 ∷ 0 ∷ 0 ∷ 0 ∷ []) 16
    ∷ case 6 (255 ∷ 255 ∷ 254 ∷ 255 ∷ []) 16
    ∷ case 6 (0 ∷ 0 ∷ 255 ∷ 255 ∷ []) 5
    ∷ case 6 (0 ∷ 0 ∷ []) 5  -- the first day's own refusal, before the last is due
    ∷ case 6 (7 ∷ 1 ∷ 255 ∷ 255 ∷ []) 5
    ∷ case 6 (7 ∷ 1 ∷ 6 ∷ []) 4
    ∷ case 6 (7 ∷ 1 ∷ 6 ∷ 1 ∷ 0 ∷ []) 16  -- before the bytes behind the book
    ∷ case 6 (7 ∷ 1 ∷ 7 ∷ 1 ∷ 0 ∷ []) 10
    ∷ case 7 (0 ∷ 4 ∷ 7 ∷ 1 ∷ 6 ∷ 1 ∷ []) 9  -- the source, then the days
    ∷ case 7 (1 ∷ 0 ∷ 7 ∷ 1 ∷ 6 ∷ 1 ∷ []) 16
    ∷ case 7 (255 ∷ 3 ∷ 7 ∷ 1 ∷ 8 ∷ 1 ∷ []) 0
    ∷ case 8 (1 ∷ 0 ∷ []) 8
    ∷ case 9 (1 ∷ 0 ∷ []) 8
    ∷ case 255 [] 8
    ∷ []

abbrev answers : List Case → Bool
answers [] = true
answers (c ∷ cs) = eqb (answer_of (decode (marked c))) c.answer && answers cs

marks_read : answers cases ≡ true
unfolding decode book header concepts several statement statement_start_lem statement_rest_lem statement_end_lem axiom_of_lem path_of_lem statement_allows_lem role_of_lem fields fields_from field byte two_bytes_lem
marks_read = refl
