-- Small books written, by evaluation.
use Prim.Native.Nat.{ℕ}
use mathlib.Core.Path.{◌≡◌, refl}
use mathlib.Core.List.{List, [], ◌∷◌, ◌++◌}
use Rattle.book.specs.Role.{role_of_lem}
use Rattle.book.specs.Read.{several}
use Rattle.book.specs.Field.{byte, two_bytes_lem, field, fields_from, fields}
use Rattle.book.specs.Table.{statement_allows_lem}
use Rattle.book.specs.Header.{header}
use Rattle.book.specs.Statement.{statement_start_lem, path_of_lem, axiom_of_lem, statement_end_lem, statement_rest_lem, statement}
use Rattle.book.specs.Bytes.{header_bytes, statement_bytes, statements_bytes, repeats}
use Rattle.book.specs.Book.{concepts, book, decode, concept_offset, concept_bytes, restated}
use Rattle.writer.specs.Kept.{without, kept}
use Rattle.writer.specs.Written.{Written, Refused, written_of, written, writes}

-- a header of one role and two individuals, with a statement count
abbrev counted : ℕ → List ℕ
counted n = 0x16 ∷ 1 ∷ 0 ∷ 2 ∷ 0 ∷ n ∷ 0 ∷ []

-- p(0,1); 0 same as 1; 1 same as 0
abbrev told : List ℕ
told = 14 ∷ 0xC1 ∷ 0 ∷ 0 ∷ 0 ∷ 0 ∷ 0 ∷ 1 ∷ 0 ∷ []

abbrev same : List ℕ
same = 12 ∷ 0xC0 ∷ 0 ∷ 0 ∷ 0 ∷ 1 ∷ 0 ∷ []

abbrev turned : List ℕ
turned = 12 ∷ 0xC0 ∷ 0 ∷ 1 ∷ 0 ∷ 0 ∷ 0 ∷ []

-- 0 same as 1, said by source 1 and by source 2
abbrev same_of_lem : ℕ → List ℕ
same_of_lem n = 12 ∷ 0xC0 ∷ 1 ∷ 0 ∷ 0 ∷ 1 ∷ 0 ∷ n ∷ 0 ∷ []

-- 0 same as 1, from a day on, and to a day
abbrev same_from : ℕ → List ℕ
same_from n = 12 ∷ 0xC0 ∷ 2 ∷ 0 ∷ 0 ∷ 1 ∷ 0 ∷ n ∷ 0 ∷ []

abbrev same_to : ℕ → List ℕ
same_to n = 12 ∷ 0xC0 ∷ 4 ∷ 0 ∷ 0 ∷ 1 ∷ 0 ∷ n ∷ 0 ∷ []

-- the first of the repeats stays, in its place
first_stays : written (counted 3 ++ (told ++ (same ++ told))) ≡ counted 2 ++ (told ++ same)
unfolding written written_of kept without restated concept_bytes repeats header_bytes statement_bytes statements_bytes concept_offset decode book header concepts several statement statement_start_lem statement_end_lem statement_rest_lem axiom_of_lem path_of_lem statement_allows_lem role_of_lem fields fields_from field byte two_bytes_lem
first_stays = refl

-- the same pair the other way round is no repeat
turned_stays : written (counted 2 ++ (same ++ turned)) ≡ counted 2 ++ (same ++ turned)
unfolding written written_of kept without restated concept_bytes repeats header_bytes statement_bytes statements_bytes concept_offset decode book header concepts several statement statement_start_lem statement_end_lem statement_rest_lem axiom_of_lem path_of_lem statement_allows_lem role_of_lem fields fields_from field byte two_bytes_lem
turned_stays = refl

-- the same statement of other sources is no repeat; of one source it is
both_stay : written (counted 5 ++ (same ++ (same_of_lem 1 ++ (same_of_lem 2 ++ (same_of_lem 1 ++ same))))) ≡ counted 3 ++ (same ++ (same_of_lem 1 ++ same_of_lem 2))
unfolding written written_of kept without restated concept_bytes repeats header_bytes statement_bytes statements_bytes concept_offset decode book header concepts several statement statement_start_lem statement_end_lem statement_rest_lem axiom_of_lem path_of_lem statement_allows_lem role_of_lem fields fields_from field byte two_bytes_lem
both_stay = refl

-- and so in other periods; a number means another thing as a source, as a first day and as a last day
periods_stay : written (counted 7 ++ (same ++ (same_from 1 ++ (same_from 2 ++ (same_to 2 ++ (same_of_lem 2 ++ (same_to 2 ++ same_from 1))))))) ≡ counted 5 ++ (same ++ (same_from 1 ++ (same_from 2 ++ (same_to 2 ++ same_of_lem 2))))
unfolding written written_of kept without restated concept_bytes repeats header_bytes statement_bytes statements_bytes concept_offset decode book header concepts several statement statement_start_lem statement_end_lem statement_rest_lem axiom_of_lem path_of_lem statement_allows_lem role_of_lem fields fields_from field byte two_bytes_lem
periods_stay = refl

-- 14 bytes of 21: they fit in 14, and what is lent behind them stays; 13 are too few, and stay; a book that is cut off is refused by 4 first
fits : writes (counted 2 ++ (same ++ same)) (7 ∷ 7 ∷ 7 ∷ 7 ∷ 7 ∷ 7 ∷ 7 ∷ 7 ∷ 7 ∷ 7 ∷ 7 ∷ 7 ∷ 7 ∷ 7 ∷ 7 ∷ []) ≡ record { answer = Written 14; out = counted 1 ++ (same ++ (7 ∷ [])) }
unfolding writes written written_of kept without restated concept_bytes repeats header_bytes statement_bytes statements_bytes concept_offset decode book header concepts several statement statement_start_lem statement_end_lem statement_rest_lem axiom_of_lem path_of_lem statement_allows_lem role_of_lem fields fields_from field byte two_bytes_lem
fits = refl

too_few : writes (counted 2 ++ (same ++ same)) (7 ∷ 7 ∷ 7 ∷ 7 ∷ 7 ∷ 7 ∷ 7 ∷ 7 ∷ 7 ∷ 7 ∷ 7 ∷ 7 ∷ 7 ∷ []) ≡ record { answer = Refused 12; out = 7 ∷ 7 ∷ 7 ∷ 7 ∷ 7 ∷ 7 ∷ 7 ∷ 7 ∷ 7 ∷ 7 ∷ 7 ∷ 7 ∷ 7 ∷ [] }
unfolding writes written written_of kept without restated concept_bytes repeats header_bytes statement_bytes statements_bytes concept_offset decode book header concepts several statement statement_start_lem statement_end_lem statement_rest_lem axiom_of_lem path_of_lem statement_allows_lem role_of_lem fields fields_from field byte two_bytes_lem
too_few = refl

cut_off : writes (counted 2 ++ same) [] ≡ record { answer = Refused 4; out = [] }
unfolding writes decode book header concepts several statement statement_start_lem statement_end_lem statement_rest_lem axiom_of_lem path_of_lem statement_allows_lem role_of_lem fields fields_from field byte two_bytes_lem
cut_off = refl
