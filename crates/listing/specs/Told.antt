-- The told-same classes stand in their rows, before any row is put down (src/tell.rt).
use Rattle.std.specs.Prelude.{ℕ, ◌+◌, ◌*◌, ◌<◌, ◌≤◌, ◌≡◌, Bool, ◌||◌, List, length, get_or, eqb}
use Rattle.book.specs.declared.header.Counts.{Counts}
use Rattle.rows.specs.Row.{at, has}
use Rattle.steps.specs.Written.{class_row_lem}

-- i and j have one label
abbrev pub one_label_lem : List ℕ → ℕ → ℕ → Bool
one_label_lem K i j = eqb (get_or K i 0) (get_or K j 0)

-- t is s with j in row k, if i and j have one label
pub record ToldOne (K : List ℕ) (i k j : ℕ) (s t : List ℕ) : Type 0 where
  pub len : length t ≡ length s
  pub there : has t k j ≡ (has s k j || one_label_lem K i j)
  pub other : (x : ℕ) → (x ≡ k * 512 + j → ⊥) → at t x ≡ at s x

-- and so for each j below m
pub record ToldRow (K : List ℕ) (i k m : ℕ) (s t : List ℕ) : Type 0 where
  pub len : length t ≡ length s
  pub there : (j : ℕ) → j < m → has t k j ≡ (has s k j || one_label_lem K i j)
  pub other : (x : ℕ) → ((j : ℕ) → j < m → x ≡ k * 512 + j → ⊥) → at t x ≡ at s x

-- t is s with the told class of each of the first m individuals in its row, and nothing else has changed
pub record ToldRows (h : Counts) (K : List ℕ) (m : ℕ) (s t : List ℕ) : Type 0 where
  pub len : length t ≡ length s
  pub there : (i j : ℕ) → i < m → j < h.individuals → has t (class_row_lem h i) j ≡ (has s (class_row_lem h i) j || one_label_lem K i j)
  pub before : (x : ℕ) → x < class_row_lem h 0 * 512 → at t x ≡ at s x
  pub behind : (x : ℕ) → class_row_lem h m * 512 ≤ x → at t x ≡ at s x
