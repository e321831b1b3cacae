-- How many joinings are due (src/join.rt): the told labels T and the labels K of a run show them.
use Rattle.std.specs.Prelude.{ℕ, Bool, not, ◌&&◌, List, get_or, ltb, eqb}
use Rattle.rules.specs.Fact.{Two, two}
use Rattle.rules.specs.Lists.{gather, only}

-- i and j, lower number first, have one label of K, and different ones of T
unfoldable pub joined_by : List ℕ → List ℕ → ℕ → ℕ → Bool
joined_by T K i j = ltb i j && (eqb (get_or K i 0) (get_or K j 0) && not (eqb (get_or T i 0) (get_or T j 0)))

-- those of i with the first m individuals
unfoldable pub joined_with : List ℕ → List ℕ → ℕ → ℕ → List Two
joined_with T K i m = gather m λ j. only (joined_by T K i j) (two i j)

-- and those of the first m individuals with the first n
unfoldable pub joined_among : List ℕ → List ℕ → ℕ → ℕ → List Two
joined_among T K n m = gather m λ i. joined_with T K i n
