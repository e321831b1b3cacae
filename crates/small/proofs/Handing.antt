-- What is lent, from what comes by value.
use Prim.Native.Nat.{ℕ, zero, suc, ◌+◌, ◌≤◌, ◌<◌}
use native.Mathlib.Omega.{arith}
use native.Mathlib.Numerals.{add-one}
use mathlib.Core.Path.{◌≡◌, refl, ap}
use mathlib.Core.List.{List, [], ◌∷◌, ◌++◌}
use lib.ListN.{length, get_or, set, take, drop, length-append, length-take, length-drop}

-- after k bytes: those, and behind them what was there
pub copied_more : (bytes out : List ℕ) (k : ℕ) → k < length bytes → k < length out → set (take k bytes ++ drop k out) k (get_or bytes k 0) ≡ take (k + 1) bytes ++ drop (k + 1) out
copied_more bytes out k l m = rw add-one (go bytes out k l m)
  where
    go : (bytes out : List ℕ) (k : ℕ) → k < length bytes → k < length out → set (take k bytes ++ drop k out) k (get_or bytes k 0) ≡ take (suc k) bytes ++ drop (suc k) out
    go [] out k l m = absurd (omega arith)
    go (b ∷ bytes) [] k l m = absurd (omega arith)
    go (b ∷ bytes) (o ∷ out) zero l m = refl
    go (b ∷ bytes) (o ∷ out) (suc k) l m = ap (λ (x : List ℕ). b ∷ x) (go bytes out k (omega arith) (omega arith))

pub copied_length : (bytes out : List ℕ) (k : ℕ) → k ≤ length bytes → k ≤ length out → length (take k bytes ++ drop k out) ≡ length out
copied_length bytes out k l m = simp (length-append, length-take, length-drop) (omega arith)
