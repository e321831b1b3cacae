-- How the pairs of classes that clash are found (src/pair.rt).
use Rattle.std.specs.Prelude.{ℕ, ◌*◌, ◌/◌, ◌%◌, ◌<◌, ◌≤◌, ◌≡◌, Bool, not, ◌&&◌, ◌||◌, List, length, get_or, eqb}
use Rattle.rows.specs.Row.{has}
use Rattle.rules.specs.Rule.{any}
use Rattle.tables.specs.Leaf.{kind_in}

-- whether the leaves x and y are markers, under one role that is functional as named, of different classes that are told to be disjoint
unfoldable pub marks_clash_lem : List ℕ → List ℕ → ℕ → ℕ → Bool
marks_clash_lem F J x y =
    eqb (kind_in x) 5 && (eqb (kind_in y) 5 && (eqb (x % 1048576 / 256) (y % 1048576 / 256) && (not (eqb (x % 256) (y % 256))
    && (has F 0 (2 * (x % 1048576 / 256)) && has J (x % 256) (y % 256)))))

-- the row d is the row c with the numbers that pass f
pub record Gathers (c : List ℕ) (f : ℕ → Bool) (d : List ℕ) : Type 0 where
  pub len : length d ≡ length c
  pub row : (b : ℕ) → b < 512 → has d 0 b ≡ (has c 0 b || f b)

-- the rows of d from l on below m are those of c with the numbers that pass f, and the others are those of c
pub record Spreads (c : List ℕ) (l m : ℕ) (f : ℕ → ℕ → Bool) (d : List ℕ) : Type 0 where
  pub len : length d ≡ length c
  pub rows : (a b : ℕ) → l ≤ a → a < m → b < 512 → has d a b ≡ (has c a b || f a b)
  pub low : (a b : ℕ) → a < l → b < 512 → has d a b ≡ has c a b
  pub high : (a b : ℕ) → m ≤ a → b < 512 → has d a b ≡ has c a b

-- whether the classes a and b bring markers that clash, a by concept k and b by any of n
abbrev pub brings_clash : List ℕ → List ℕ → List ℕ → List ℕ → ℕ → ℕ → ℕ → ℕ → Bool
brings_clash F J T L n k a b = has T k a && any n (λ j. marks_clash_lem F J (get_or L k 0) (get_or L j 0) && has T j b)

-- the rows of d are those of c with the pairs that pass f
pub record Paired (c : List ℕ) (f : ℕ → ℕ → Bool) (d : List ℕ) : Type 0 where
  pub len : length d ≡ length c
  pub rows : (a b : ℕ) → a < 256 → b < 512 → has d a b ≡ (has c a b || f a b)
