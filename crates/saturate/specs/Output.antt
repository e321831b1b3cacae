-- What the program prints for a book (sections "Layers" and "Bars").
use Rattle.std.specs.Prelude.{ℕ, List, [], ◌∷◌, length, replicate, ltb}
use Rattle.book.specs.Read.{pick}
use Rattle.rules.specs.Ends.{outcome}
use Rattle.text.specs.Text.{line, printed}

unfoldable pub zeros : ℕ → List ℕ
zeros n = replicate n 0

-- "long" in ASCII
abbrev pub long : List ℕ
long = 108 ∷ 111 ∷ 110 ∷ 103 ∷ []

-- the text of a run with budget 4,000 and lists of 8,000, 12,000 and 4,000 entries; of a book of more than 65,536 bytes the one line "long"
unfoldable pub output : List ℕ → List ℕ
output s = pick (ltb 65536 (length s)) (line long []) (printed (outcome s 4000 (zeros 8000) (zeros 12000) (zeros 4000)))
