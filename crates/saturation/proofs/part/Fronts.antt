-- The front of a list, and what an end says of it.
use Prim.Native.Nat.{ℕ, zero, suc, ◌<◌, ◌≤◌}
use native.Mathlib.Omega.{arith}
use mathlib.Core.Path.{◌≡◌, refl, ap}
use mathlib.Core.List.{List, [], ◌∷◌}
use lib.ListN.{length, take}
use denote.Enum.Declared.{tag_of}
use types.Run.{miss}
use borrow.Enum.Refused.{Among, opened}
use Rattle.rules.specs.Ends.{edge_entries_lem, pair_entries_lem}
use Rattle.verdict.specs.declared.end.End.{End}
use Rattle.verdict.specs.declared.end.End.TheVariants.{Finished, Clash, Spent, Refused}
use Rattle.verdict.specs.Conclude.{end_of}
use Rattle.verdict.specs.contracts.end.End.{the_type}

-- all of a list that has no more
pub take_all : (n : ℕ) (l : List ℕ) → length l ≤ n → l ≡ take n l
take_all zero [] h = refl
take_all zero (x ∷ l) h = absurd (omega arith)
take_all (suc n) [] h = refl
take_all (suc n) (x ∷ l) h = ap (λ (m : List ℕ). x ∷ m) (take_all n l (omega arith))

pub take-length : (n : ℕ) (l : List ℕ) → n < length l → n ≡ length (take n l)
take-length zero l h = refl
take-length (suc n) [] h = absurd (omega arith)
take-length (suc n) (x ∷ l) h = ap suc (take-length n l (omega arith))

-- no entries at any end but finished
abbrev unfinished : List ℕ
unfinished = 1 ∷ 2 ∷ 3 ∷ []

pub no_edges : (e : End) → Among unfinished (tag_of the_type e) → ◌≡◌ {A = ℕ} 0 (edge_entries_lem (end_of e))
no_edges (Finished t e p) k = absurd (miss unfinished 0 tt (opened k))
no_edges (Clash t e) k = refl
no_edges Spent k = refl
no_edges (Refused n) k = refl

pub no_pairs : (e : End) → Among unfinished (tag_of the_type e) → ◌≡◌ {A = ℕ} 0 (pair_entries_lem (end_of e))
no_pairs (Finished t e p) k = absurd (miss unfinished 0 tt (opened k))
no_pairs (Clash t e) k = refl
no_pairs Spent k = refl
no_pairs (Refused n) k = refl
