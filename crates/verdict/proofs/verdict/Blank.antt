-- Arrays of zeros, as rows.
use Prim.Native.Nat.{ℕ, ◌+◌, ◌*◌, ◌<◌}
use mathlib.Core.Path.{◌≡◌, sym, ◌∙◌}
use mathlib.Core.Bool.{false, ◌&&◌}
use mathlib.Core.List.{List}
use mathlib.Core.Logic.{⊎_elim}
use native.Mathlib.Decide.{dec_lt}
use native.Mathlib.Omega.{arith}
use lib.ListN.{get_or, replicate, get_or-replicate, length-replicate, get_or-eq_default}
use Rattle.rows.specs.Row.{at, has, Gathered, Composed}
use Rattle.rows.proofs.row.Bits.{bit_zero}
use Rattle.rules.specs.Rule.{any}
use Rattle.rules.proofs.Tests.{false_true, both_ways, and_both, and_intro, any_some, some_any}

-- every word is 0, also beyond the end
zeros : (n i : ℕ) → get_or {A = ℕ} (replicate n 0) i 0 ≡ 0
zeros n i = go (dec_lt i n)
  where
    go : Dec (i < n) → get_or {A = ℕ} (replicate n 0) i 0 ≡ 0
    go (yes l) = get_or-replicate n i 0 0 l
    go (no l) = get_or-eq_default (replicate n 0) 0 (omega (arith, length-replicate {0} {A = ℕ} n 0))

-- no bit is set
pub blank : (n i : ℕ) → at (replicate n 0) i ≡ false
unfolding at
blank n i = rw zeros (bit_zero _)

-- a row that is gathered into a blank one
pub row_taken : {t d : List ℕ} {k : ℕ} (n : ℕ) → Gathered (replicate n 0) 0 t k d → (i : ℕ) → i < 512 → has d 0 i ≡ has t k i
row_taken {t} {d} {k} n g i l = g.all i l ∙ rw (blank n (0 * 512 + i))

-- a row that rows are composed into, where it was blank
pub row_composed : {s t d : List ℕ} {k base n : ℕ} → Composed (replicate 8 0) s k t base 0 n n d → (i : ℕ) → i < 512 → has d 0 i ≡ any n (λ c. has s k c && has t (base + c) i)
row_composed {s} {t} {d} {k} {base} {n} p i l = both_ways (has d 0 i) (any n _)
    (λ e. ⊎_elim (λ h. false_true (sym (blank 8 (0 * 512 + i)) ∙ h)) (λ h. some_any n _ h.0 h.1 (and_intro _ _ h.2 h.3)) (p.from i l e))
    (λ e. let h = any_some n _ e in let b = and_both (has s k h.0) (has t (base + h.0) i) h.2 in p.into h.0 i (omega arith) h.1 h.1 l b.0 b.1)
