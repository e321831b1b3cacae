-- What is listed of a table: its rows in ascending order (src/list.rt).
use Rattle.std.specs.Prelude.{ℕ, ◌+◌, ◌-◌, ◌*◌, ◌/◌, min, ◌≡◌, ◌&&◌, List, ◌++◌, length, get_or, take, drop, ltb}
use Rattle.rows.specs.Row.{has}
use Rattle.rows.specs.declared.table.Size.{Size}
use Rattle.rows.specs.Table.{leads}
use Rattle.rules.specs.Fact.{Two, Three, two, three}
use Rattle.rules.specs.Lists.{gather, only}

-- the members below n of row k, each with a number in front
abbrev pub row_of : ℕ → List ℕ → ℕ → ℕ → List Two
row_of first t k n = gather n λ b. only (has t k b) (two first b)

-- those of them among the 64 from l on
abbrev pub word_of : ℕ → List ℕ → ℕ → ℕ → ℕ → List Two
word_of first t k l n = gather (min 64 (n - l)) λ j. only (has t k (l + j)) (two first (l + j))

-- those of them behind that number
abbrev pub behind_of : ℕ → List ℕ → ℕ → ℕ → List Two
behind_of first t k n = gather n λ b. only (ltb first b && has t k b) (two first b)

-- of each of n individuals those behind it in the row, among the rows G, of its label among the labels K
unfoldable pub pairs_of_lem : List ℕ → List ℕ → ℕ → List Two
pairs_of_lem K G n = gather n λ i. behind_of i G (get_or K i 0) n

-- the types of a table
unfoldable pub types_of : Size → List ℕ → List Two
types_of z t = gather z.individuals λ i. gather z.classes λ c. only (leads z t (z.fields - 2) i c) (two i c)

-- the members below n of row k among the 64 from l on, each with two numbers in front
abbrev pub edges_word : ℕ → ℕ → List ℕ → ℕ → ℕ → ℕ → List Three
edges_word r a t k l n = gather (min 64 (n - l)) λ j. only (has t k (l + j)) (three r a (l + j))

-- the edges of a table, of role r and from a; of role r; and of all roles
abbrev pub edges_from : Size → List ℕ → ℕ → ℕ → List Three
edges_from z t r a = gather z.individuals λ b. only (leads z t (2 * r) a b) (three r a b)

abbrev pub edges_of_lem : Size → List ℕ → ℕ → List Three
edges_of_lem z t r = gather z.individuals λ a. edges_from z t r a

unfoldable pub all_edges_lem : Size → List ℕ → List Three
all_edges_lem z t = gather (z.fields / 2 - 1) λ r. edges_of_lem z t r

-- m is l with the entries es written from `at` on
pub record Written (l : List ℕ) (at : ℕ) (es : List ℕ) (m : List ℕ) (end : ℕ) : Type 0 where
  pub len : length m ≡ length l
  pub behind : end ≡ at + length es
  pub front : take end m ≡ take at l ++ es
  pub rest : drop end m ≡ drop end l
