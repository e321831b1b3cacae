use Prim.Native.Nat.{ℕ, zero, suc, ◌≤◌}
use native.Mathlib.Omega.{arith}
use mathlib.Core.Path.{◌≡◌, refl, ap}
use mathlib.Core.List.{List, [], ◌∷◌}
use lib.ListN.{length, set}
use Rattle.zamoluvel.proofs.is.put.Goals as goal

-- an entry that is not there is not made
past : (l : List ℕ) (i v : ℕ) → length l ≤ i → l ≡ set l i v
past [] i v k = refl
past (x ∷ l) zero v k = absurd (omega arith)
past (x ∷ l) (suc i) v k = ap (λ (m : List ℕ). x ∷ m) (past l i v (omega arith))

pub returns-else-i-counts : goal.returns-else-i-counts
returns-else-i-counts c = past c.args.counts.now c.args.i c.args.count (omega (arith, c.if-i-counts.false))
