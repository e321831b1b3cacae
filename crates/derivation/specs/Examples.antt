-- Worked rows: a book, rows for it, and how many of them stand.
use Rattle.std.specs.Prelude.{ℕ, ◌≡◌, List, [], ◌∷◌, replicate}
use Rattle.derivation.specs.Rows.{none}
use Rattle.derivation.specs.Accept.{Judged, stand_rows, faulty_book, judged}

-- Document 01's book of seven individuals. Its statements: 0 and 1 make the roles 0 and 1 functional; 2 the range of 2 is class 0; 3 class 0 under
-- Some(3, Nominal 6); 4 individual 1 has class 0; 5 to 9 the edges 0(0,1), 0(0,2), 1(3,2), 1(3,4), 2(5,4).
unfoldable pub worked : List ℕ
worked =
    (0x1F ∷ 0x01 ∷ 0x00 ∷ 0x04 ∷ 0x00 ∷ 0x07 ∷ 0x00 ∷ 0x03 ∷ 0x00 ∷ 0x0A ∷ 0x00 ∷ 0x02 ∷ 0x01 ∷ 0x00 ∷ 0x00 ∷ 0x03 ∷ 0x02 ∷ 0x06 ∷ 0x00 ∷ 0x08
    ∷ 0x0C ∷ 0x06 ∷ 0x00 ∷ 0x01 ∷ 0x00 ∷ 0x08 ∷ 0x01 ∷ 0x00 ∷ 0x00 ∷ 0x00 ∷ 0x08 ∷ 0x01 ∷ 0x00 ∷ 0x02 ∷ 0x00 ∷ 0x0B ∷ 0x11 ∷ 0x00 ∷ 0x04 ∷ 0x00
    ∷ 0x00 ∷ 0x00 ∷ 0x01 ∷ 0x30 ∷ 0x00 ∷ 0x00 ∷ 0x00 ∷ 0x02 ∷ 0x00 ∷ 0x0D ∷ 0x50 ∷ 0x00 ∷ 0x00 ∷ 0x00 ∷ 0x01 ∷ 0x00 ∷ 0x0E ∷ 0xC1 ∷ 0x00 ∷ 0x00
    ∷ 0x00 ∷ 0x00 ∷ 0x00 ∷ 0x01 ∷ 0x00 ∷ 0x0E ∷ 0xC1 ∷ 0x00 ∷ 0x00 ∷ 0x00 ∷ 0x00 ∷ 0x00 ∷ 0x02 ∷ 0x00 ∷ 0x0E ∷ 0xC1 ∷ 0x00 ∷ 0x02 ∷ 0x00 ∷ 0x03
    ∷ 0x00 ∷ 0x02 ∷ 0x00 ∷ 0x0E ∷ 0xC1 ∷ 0x00 ∷ 0x02 ∷ 0x00 ∷ 0x03 ∷ 0x00 ∷ 0x04 ∷ 0x00 ∷ 0x0E ∷ 0xC1 ∷ 0x00 ∷ 0x04 ∷ 0x00 ∷ 0x05 ∷ 0x00 ∷ 0x04
    ∷ 0x00 ∷ [])

-- Two classes, a role, three individuals. Statements: 0 tells 0 and 1 to be the same; 1 the role is transitive; 2 the classes are disjoint; 3 and 4
-- the edges (0,1), (1,2); 5 individual 0 has class 0; 6 individual 1 has class 1.
unfoldable pub clashing : List ℕ
clashing =
    (0x1F ∷ 0x02 ∷ 0x00 ∷ 0x01 ∷ 0x00 ∷ 0x03 ∷ 0x00 ∷ 0x02 ∷ 0x00 ∷ 0x07 ∷ 0x00 ∷ 0x02 ∷ 0x01 ∷ 0x00 ∷ 0x00 ∷ 0x02 ∷ 0x01 ∷ 0x01 ∷ 0x00 ∷ 0x0C
    ∷ 0xC0 ∷ 0x00 ∷ 0x00 ∷ 0x00 ∷ 0x01 ∷ 0x00 ∷ 0x06 ∷ 0x01 ∷ 0x00 ∷ 0x00 ∷ 0x00 ∷ 0x03 ∷ 0x30 ∷ 0x00 ∷ 0x00 ∷ 0x00 ∷ 0x01 ∷ 0x00 ∷ 0x0E ∷ 0xC1
    ∷ 0x00 ∷ 0x00 ∷ 0x00 ∷ 0x00 ∷ 0x00 ∷ 0x01 ∷ 0x00 ∷ 0x0E ∷ 0xC1 ∷ 0x00 ∷ 0x00 ∷ 0x00 ∷ 0x01 ∷ 0x00 ∷ 0x02 ∷ 0x00 ∷ 0x0D ∷ 0x50 ∷ 0x00 ∷ 0x00
    ∷ 0x00 ∷ 0x00 ∷ 0x00 ∷ 0x0D ∷ 0x50 ∷ 0x00 ∷ 0x01 ∷ 0x00 ∷ 0x01 ∷ 0x00 ∷ [])

-- Roles p (0) and q (1), seven individuals. Statements: 0 p is functional; 1 to 4 the edges p(0,1), p(0,2), p(3,4), p(3,5); 5 and 6 q(1,1), q(1,4); 7 tells
-- 5 and 6 to be the same. So 1 and 2 are joined, and 4, 5 and 6.
unfoldable pub joined : List ℕ
joined =
    (0x16 ∷ 0x02 ∷ 0x00 ∷ 0x07 ∷ 0x00 ∷ 0x08 ∷ 0x00 ∷ 0x08 ∷ 0x01 ∷ 0x00 ∷ 0x00 ∷ 0x00 ∷ 0x0E ∷ 0xC1 ∷ 0x00 ∷ 0x00 ∷ 0x00 ∷ 0x00 ∷ 0x00 ∷ 0x01
    ∷ 0x00 ∷ 0x0E ∷ 0xC1 ∷ 0x00 ∷ 0x00 ∷ 0x00 ∷ 0x00 ∷ 0x00 ∷ 0x02 ∷ 0x00 ∷ 0x0E ∷ 0xC1 ∷ 0x00 ∷ 0x00 ∷ 0x00 ∷ 0x03 ∷ 0x00 ∷ 0x04 ∷ 0x00 ∷ 0x0E
    ∷ 0xC1 ∷ 0x00 ∷ 0x00 ∷ 0x00 ∷ 0x03 ∷ 0x00 ∷ 0x05 ∷ 0x00 ∷ 0x0E ∷ 0xC1 ∷ 0x00 ∷ 0x02 ∷ 0x00 ∷ 0x01 ∷ 0x00 ∷ 0x01 ∷ 0x00 ∷ 0x0E ∷ 0xC1 ∷ 0x00
    ∷ 0x02 ∷ 0x00 ∷ 0x01 ∷ 0x00 ∷ 0x04 ∷ 0x00 ∷ 0x0C ∷ 0xC0 ∷ 0x00 ∷ 0x05 ∷ 0x00 ∷ 0x06 ∷ 0x00 ∷ [])

-- One individual, and statement 0: it differs from itself.
unfoldable pub differing : List ℕ
differing = 0x14 ∷ 0x01 ∷ 0x00 ∷ 0x01 ∷ 0x00 ∷ 0x0F ∷ 0xC0 ∷ 0x00 ∷ 0x00 ∷ 0x00 ∷ 0x00 ∷ 0x00 ∷ []

-- A role p, three individuals. Statements: 0 p is functional; 1 and 2 the edges p(0,1), p(0,2); 3 denies that 2 and 1 are one; 4 that the inverse of p leads
-- 1 to 0.
unfoldable pub denying : List ℕ
denying =
    (0x16 ∷ 0x01 ∷ 0x00 ∷ 0x03 ∷ 0x00 ∷ 0x05 ∷ 0x00 ∷ 0x08 ∷ 0x01 ∷ 0x00 ∷ 0x00 ∷ 0x00 ∷ 0x0E ∷ 0xC1 ∷ 0x00 ∷ 0x00 ∷ 0x00 ∷ 0x00 ∷ 0x00 ∷ 0x01
    ∷ 0x00 ∷ 0x0E ∷ 0xC1 ∷ 0x00 ∷ 0x00 ∷ 0x00 ∷ 0x00 ∷ 0x00 ∷ 0x02 ∷ 0x00 ∷ 0x0F ∷ 0xC0 ∷ 0x00 ∷ 0x02 ∷ 0x00 ∷ 0x01 ∷ 0x00 ∷ 0x10 ∷ 0xC1 ∷ 0x00
    ∷ 0x01 ∷ 0x00 ∷ 0x01 ∷ 0x00 ∷ 0x00 ∷ 0x00 ∷ [])

-- a row in front of others: rule, statement, three earlier rows, kind, three numbers
abbrev pub row : ℕ → ℕ → ℕ → ℕ → ℕ → ℕ → ℕ → ℕ → ℕ → List ℕ → List ℕ
row rule statement a b c kind x y z l = rule ∷ statement ∷ a ∷ b ∷ c ∷ kind ∷ x ∷ y ∷ z ∷ l

abbrev pub - : ℕ
- = none

pub record Example : Type 0 where
  pub book : List ℕ
  pub rows : List ℕ
  pub answer : Judged

abbrev pub Holds : Example → Type 0
Holds e = judged e.book e.rows ≡ e.answer

-- the six told facts of the worked book, as rows 0 to 5
abbrev pub told : List ℕ → List ℕ
told l =
    row 1 4 - - - 0 1 0 - (row 1 5 - - - 1 0 0 1 (row 1 6 - - - 1 0 0 2
    (row 1 7 - - - 1 1 3 2 (row 1 8 - - - 1 1 3 4 (row 1 9 - - - 1 2 5 4 l)))))

-- a listing of its eighteen facts: 1 and 2, 2 and 4 joined; by that 0(0,4), and so 1 and 4 joined; and all that they share
abbrev pub whole : List ℕ → List ℕ
whole l =
    told (row 7 0 1 2 - 3 1 2 - (row 7 1 3 4 - 3 2 4 - (row 6 - 2 7 - 1 0 0 4 (row 7 0 1 8 - 3 1 4 -
    (row 6 - 3 6 - 1 1 3 1 (row 6 - 5 9 - 1 2 5 1 (row 6 - 5 7 - 1 2 5 2 (row 5 2 5 - - 0 4 0 - (row 6 - 0 6 - 0 2 0 -
    (row 2 3 0 - - 1 3 1 6 (row 2 3 14 - - 1 3 2 6 (row 2 3 13 - - 1 3 4 6 l))))))))))))

-- rows of the clashing book: p(0,1); p(1,0) by rule 6, both ends at once; 0 has class 0; 1 has class 1
abbrev facts : List ℕ → List ℕ
facts l = row 1 3 - - - 1 0 0 1 (row 6 - 0 - - 1 0 1 0 (row 1 5 - - - 0 0 0 - (row 1 6 - - - 0 1 1 - l)))

-- the six told edges of the book with joinings, as rows 0 to 5
abbrev edges : List ℕ → List ℕ
edges l =
    row 1 1 - - - 1 0 0 1 (row 1 2 - - - 1 0 0 2 (row 1 3 - - - 1 0 3 4 (row 1 4 - - - 1 0 3 5 (row 1 5 - - - 1 1 1 1 (row 1 6 - - - 1 1 1 4 l)))))

-- and the joinings of 1 and 2, of 4 and 5, as rows 6 and 7
abbrev joinings : List ℕ → List ℕ
joinings l = edges (row 7 0 0 1 - 3 1 2 - (row 7 0 2 3 - 3 4 5 - l))

-- the edges of the denying book, and the joining of 1 and 2, as rows 0 to 2
abbrev fillers : List ℕ → List ℕ
fillers l = row 1 1 - - - 1 0 0 1 (row 1 2 - - - 1 0 0 2 (row 7 0 0 1 - 3 1 2 - l))

abbrev example : List ℕ → List ℕ → ℕ → Example
example book rows n = record { book = book; rows = rows; answer = stand_rows n }

unfoldable pub examples : List Example
examples =
    -- a whole listing; with 0s behind it; without its last number
    example worked (whole []) 18
    ∷ example worked (whole (replicate 20 0)) 18
    ∷ example worked (told (5 ∷ 2 ∷ 5 ∷ - ∷ - ∷ 0 ∷ 4 ∷ 0 ∷ [])) 6
    -- rows named in any order, and rows that are not needed
    ∷ example worked (told (row 7 0 2 0 1 3 1 2 - (row 1 4 0 0 5 0 1 0 - (row 6 - - 6 0 0 2 0 - [])))) 9
    -- rule 7: a type; a joining with the higher number first; of edges of two subjects; of equal fillers; by the wrong role's statement; from joinings
    ∷ example worked (told (row 7 0 0 1 2 0 2 0 - [])) 6
    ∷ example worked (told (row 7 0 1 2 - 3 2 1 - [])) 6
    ∷ example joined (edges (row 7 0 0 2 - 3 1 4 - [])) 6
    ∷ example worked (told (row 7 0 1 1 - 3 1 1 - [])) 6
    ∷ example worked (told (row 7 1 1 2 - 3 1 2 - [])) 6
    ∷ example worked (told (row 7 0 1 2 - 3 1 2 - (row 7 1 3 4 - 3 2 4 - (row 7 0 6 7 - 3 1 4 - [])))) 8
    -- a joining with a third number; of an individual that the book has not
    ∷ example worked (told (row 7 0 1 2 - 3 1 2 0 [])) 6
    ∷ example worked (told (row 7 0 1 2 - 3 1 7 - [])) 6
    -- the right fact by another rule's number, or by no statement
    ∷ example worked (told (row 2 2 5 - - 0 4 0 - [])) 6
    ∷ example worked (told (row 5 - 5 - - 0 4 0 - [])) 6
    -- a row that names itself; a number where there is none; an individual that the book has not; a kind of fact that there is not
    ∷ example worked (told (row 5 2 5 6 - 0 4 0 - [])) 6
    ∷ example worked (told (row 5 2 5 - - 0 4 0 0 [])) 6
    ∷ example worked (told (row 2 3 0 - - 1 3 1 7 [])) 6
    ∷ example worked (told (row 7 0 1 2 - 4 1 2 - [])) 6
    -- no clash
    ∷ example worked (told (row 8 - 0 1 2 2 - - - [])) 6
    -- rule 6 across a found class: with the joining row of the two; without it; with that of others; with a later one
    ∷ example joined (joinings (row 6 - 5 6 - 1 1 2 4 [])) 9
    ∷ example joined (joinings (row 6 - 5 - - 1 1 2 4 [])) 8
    ∷ example joined (joinings (row 6 - 5 7 - 1 1 2 4 [])) 8
    ∷ example joined (edges (row 6 - 5 7 - 1 1 2 4 (row 7 0 0 1 - 3 1 2 - []))) 6
    -- both ends at once: two joining rows for two changes, in any order; one alone; one for both ends of q(1,1); an edge twice and no joining
    ∷ example joined (joinings (row 6 - 5 6 7 1 1 2 5 (row 6 - 7 5 6 1 1 2 5 []))) 10
    ∷ example joined (joinings (row 6 - 5 6 - 1 1 2 5 [])) 8
    ∷ example joined (joinings (row 6 - 5 7 7 1 1 2 5 [])) 8
    ∷ example joined (joinings (row 6 - 4 6 - 1 1 2 2 (row 6 - 8 6 - 1 1 1 1 []))) 10
    ∷ example joined (joinings (row 6 - 4 4 - 1 1 2 2 [])) 8
    -- 5 to 6 inside their told class, for nothing; 4 to 6 not by the joining of 4 and 5, but by their own; a joining inside a told class
    ∷ example joined (joinings (row 6 - 3 - - 1 0 3 6 (row 7 0 2 8 - 3 4 6 - (row 6 - 5 9 - 1 1 1 6 (row 7 0 3 8 - 3 5 6 - []))))) 12
    ∷ example joined (joinings (row 6 - 5 7 - 1 1 1 6 [])) 8
    -- no joining by a told-same statement, nor by rule 6
    ∷ example joined (joinings (row 6 7 - - - 3 5 6 - [])) 8
    ∷ example joined (joinings (row 6 - - - - 3 5 6 - [])) 8
    ∷ example joined (joinings (row 6 - 7 - - 3 4 6 - [])) 8
    -- a clash, on one individual by number; after it rows are judged on; told-same without a row of its own is not seen
    ∷ example clashing (facts (row 6 - 3 - - 0 0 1 - (row 8 2 4 2 - 2 - - - (row 1 4 5 - - 1 0 1 2 [])))) 7
    ∷ example clashing (facts (row 8 2 2 3 - 2 - - - [])) 4
    ∷ example clashing (facts (row 4 1 0 1 - 1 0 1 1 (row 4 1 4 - - 1 0 1 1 []))) 6
    -- rule 6 names no statement; rule 8 one of the book's or none
    ∷ example clashing (facts (row 6 0 3 - - 0 0 1 - [])) 4
    ∷ example clashing (facts (row 6 - 3 - - 0 0 1 - (row 8 7 4 2 - 2 - - - []))) 5
    -- what is denied: one number twice, for nothing; a found pair by its joining row, an edge by its own, whatever statement of the book is named, or none
    ∷ example differing (row 8 0 - - - 2 - - - []) 1
    ∷ example denying (fillers (row 8 3 2 - - 2 - - - (row 8 4 0 - - 2 - - - (row 8 - - 0 - 2 - - - [])))) 6
    -- not by the row of another edge; nor by none
    ∷ example denying (fillers (row 8 4 1 - - 2 - - - [])) 3
    ∷ example denying (fillers (row 8 3 - - - 2 - - - [])) 3
    -- a last row without its last number, which would be 0
    ∷ example clashing (row 1 3 - - - 1 0 0 1 (6 ∷ - ∷ 0 ∷ - ∷ - ∷ 1 ∷ 0 ∷ 1 ∷ [])) 1
    -- no rows; no book
    ∷ example worked [] 0
    ∷ record { book = []; rows = whole []; answer = faulty_book 4 }
    ∷ []
