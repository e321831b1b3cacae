-- What the program prints of a run: its end in one line, then a line for each fact and pair that is listed. A text is the list of its bytes.
use Rattle.std.specs.Prelude.{ℕ, zero, suc, ◌+◌, ◌*◌, ◌/◌, ◌%◌, List, [], ◌∷◌, ◌++◌, length, get_or, take, drop, ltb}
use Rattle.book.specs.Read.{pick}
use Rattle.rules.specs.Lists.{gather}
use Rattle.rules.specs.Ends.{End, Refused, Spent, Clash, Finished, Outcome, edge_part, pair_part}

-- n in decimal digits, without zeros in front; of a number of more than k digits the last k
unfoldable pub decimal : ℕ → ℕ → List ℕ
decimal zero n = []
decimal (suc k) n = pick (ltb n 10) ((48 + n) ∷ []) (decimal k (n / 10) ++ ((48 + n % 10) ∷ []))

-- a space and a number of at most ten digits
abbrev pub number : ℕ → List ℕ
number n = 32 ∷ decimal 10 n

abbrev pub numbers : List ℕ → List ℕ
numbers l = gather (length l) λ i. number (get_or l i 0)

-- a word, some numbers, a line feed
unfoldable pub line : List ℕ → List ℕ → List ℕ
line word l = (word ++ numbers l) ++ (10 ∷ [])

-- a line for each w entries of a list, from the first on
unfoldable pub lines : List ℕ → ℕ → List ℕ → List ℕ
lines word w l = gather (length l / w) λ k. line word (take w (drop (k * w) l))

-- the words, in ASCII
abbrev finished : List ℕ
finished = 102 ∷ 105 ∷ 110 ∷ 105 ∷ 115 ∷ 104 ∷ 101 ∷ 100 ∷ []

abbrev clash : List ℕ
clash = 99 ∷ 108 ∷ 97 ∷ 115 ∷ 104 ∷ []

abbrev spent : List ℕ
spent = 115 ∷ 112 ∷ 101 ∷ 110 ∷ 116 ∷ []

abbrev refused : List ℕ
refused = 114 ∷ 101 ∷ 102 ∷ 117 ∷ 115 ∷ 101 ∷ 100 ∷ []

-- an end with what it returns
abbrev pub end_line : End → List ℕ
end_line (Finished t e p) = line finished (t ∷ e ∷ p ∷ [])
end_line (Clash t e) = line clash (t ∷ e ∷ [])
end_line Spent = line spent []
end_line (Refused n) = line refused (n ∷ [])

-- the part of the type list that the types fill, none at any end but finished
abbrev pub type_entries_lem : End → ℕ
type_entries_lem (Refused n) = 0
type_entries_lem Spent = 0
type_entries_lem (Clash t e) = 0
type_entries_lem (Finished t e p) = 2 * t

abbrev pub type_part_lem : End → List ℕ → List ℕ
type_part_lem end ts = take (type_entries_lem end) ts

-- the types as "t individual class", the edges as "e role first second", the pairs as "s lower higher"
abbrev pub type_lines : End → List ℕ → List ℕ
type_lines end ts = lines (116 ∷ []) 2 (type_part_lem end ts)

abbrev pub edge_lines : End → List ℕ → List ℕ
edge_lines end es = lines (101 ∷ []) 3 (edge_part end es)

abbrev pub pair_lines : End → List ℕ → List ℕ
pair_lines end ps = lines (115 ∷ []) 2 (pair_part end ps)

-- WHAT IS PRINTED of an outcome: the end, then what is listed; no more than the end where nothing is
unfoldable pub printed : Outcome → List ℕ
printed o = ((end_line o.end ++ type_lines o.end o.types) ++ edge_lines o.end o.edges) ++ pair_lines o.end o.pairs
