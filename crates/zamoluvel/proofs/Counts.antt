-- The three counts of an end, in one array.
use Prim.Native.Nat.{ℕ}
use mathlib.Core.Path.{◌≡◌, ap}
use mathlib.Core.List.{[], ◌∷◌}
use Rattle.rules.specs.Ends.{End}
use Rattle.zamoluvel.specs.Run.{type_count_lem, edge_count_lem, pair_count_lem, three_counts}

pub counts_are : (t e p : ℕ) {x y : End} → x ≡ y → t ≡ type_count_lem x → e ≡ edge_count_lem x → p ≡ pair_count_lem x → (t ∷ e ∷ p ∷ []) ≡ three_counts y
counts_are t e p {x} q a b c = rw (a, b, c) (ap three_counts q)
