-- The entries of a list from a place on.
use Rattle.std.specs.Prelude.{ℕ, ◌≤◌, ◌<◌, ◌≡◌, List, length, get_or}

-- each is v
abbrev pub Only : List ℕ → ℕ → ℕ → Type 0
Only l from v = (k : ℕ) → k < length l → from ≤ k → get_or l k 0 ≡ v
