-- What the functions of src/row.rt leave.
use Rattle.std.specs.Prelude.{ℕ, ◌/◌, ◌<◌, ◌≡◌, Bool, true, ◌&&◌, List, length}
use Rattle.rows.specs.Row.{at, has}

-- of the numbers below n those in row k are the ones that pass f
abbrev pub Holds : List ℕ → ℕ → ℕ → (ℕ → Bool) → Type 0
Holds t k n f = (x : ℕ) → x < n → has t k x ≡ f x

pub record Met (c t : List ℕ) (k : ℕ) (d : List ℕ) : Type 0 where
  pub len : length d ≡ length c
  pub row : (x : ℕ) → x < 512 → has d 0 x ≡ (has c 0 x && has t k x)

pub record Copied (s : List ℕ) (k : ℕ) (c t : List ℕ) : Type 0 where
  pub len : length t ≡ length s
  pub row : (x : ℕ) → x < 512 → has t k x ≡ has c 0 x
  pub other : (x : ℕ) → (x / 512 ≡ k → ⊥) → at t x ≡ at s x

pub record Filled (c d : List ℕ) : Type 0 where
  pub len : length d ≡ length c
  pub row : (x : ℕ) → x < 512 → has d 0 x ≡ true
