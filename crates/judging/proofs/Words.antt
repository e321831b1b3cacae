-- The laws of src/row.rt, word by word.
use Prim.Native.Nat.{ℕ, zero, suc, ◌+◌, ◌*◌, ◌/◌, ◌%◌, ◌<◌}
use mathlib.Core.Path.{◌≡◌, refl, sym, ◌∙◌}
use mathlib.Core.Bool.{true}
use mathlib.Core.List.{List}
use native.Mathlib.Decide.{ℕ_discrete}
use native.Mathlib.Omega.{arith}
use lib.ListN.{length, get_or, set, length-set}
use borrow.Author.Tests.{eq-eqb}
use Rattle.rows.specs.Row.{bit, at, has}
use Rattle.rows.proofs.row.Bits.{bit_suc, at_set_same, at_set_other, at_word}
use Rattle.judging.specs.Row.{Copied, Filled}

-- the first w words are copied
pub record Copying (s : List ℕ) (k : ℕ) (c : List ℕ) (w : ℕ) (t : List ℕ) : Type 0 where
  pub len : length t ≡ length s
  pub done : (x : ℕ) → x < w * 64 → has t k x ≡ has c 0 x
  pub other : (x : ℕ) → (x / 512 ≡ k → ⊥) → at t x ≡ at s x

pub copying_none : (s : List ℕ) (k : ℕ) (c : List ℕ) → Copying s k c 0 s
copying_none s k c = record { len = refl; done = λ x l. absurd (omega arith); other = λ x n. refl }

pub copying_more : {s c t : List ℕ} {k w : ℕ} → Copying s k c w t → w < 8 → k * 8 + w < length t → Copying s k c (w + 1) (set t (k * 8 + w) (get_or c w 0))
copying_more {s} {c} {t} {k} {w} p l h = record {
  len = length-set t (k * 8 + w) v ∙ p.len;
  done = λ x m. go x m (ℕ_discrete (x / 64) w);
  other = λ x n. at_set_other t (k * 8 + w) v x (λ e. n (omega arith)) ∙ p.other x n;
}
  where
    v : ℕ
    v = get_or c w 0

    go : (x : ℕ) → x < (w + 1) * 64 → Dec (x / 64 ≡ w) → has (set t (k * 8 + w) v) k x ≡ has c 0 x
    go x m (yes e) =
        let q : (k * 512 + x) % 64 ≡ x % 64 = omega arith in
        at_set_same t (k * 8 + w) v (k * 512 + x) h (omega arith) ∙ rw q (sym (at_word c w (x % 64) (0 * 512 + x) (omega arith) (omega arith)))
    go x m (no e) = at_set_other t (k * 8 + w) v (k * 512 + x) (λ q. omega arith) ∙ p.done x (omega arith)

pub copying_all : {s c t : List ℕ} {k w : ℕ} → Copying s k c w t → w ≡ 8 → Copied s k c t
copying_all p e = record { len = p.len; row = λ x l. p.done x (omega arith); other = p.other }

-- the word whose n lowest bits are set
ones : ℕ → ℕ
ones zero = 0
ones (suc n) = 2 * ones n + 1

odd_first : (m : ℕ) → bit (2 * m + 1) 0 ≡ true
unfolding bit
odd_first m = eq-eqb ((2 * m + 1) / 1 % 2) 1 (omega arith)

ones_bit : (n j : ℕ) → j < n → bit (ones n) j ≡ true
unfolding ones
ones_bit zero j l = absurd (omega arith)
ones_bit (suc n) zero l = odd_first (ones n)
ones_bit (suc n) (suc j) l = bit_suc (2 * ones n + 1) j ∙ (let e : (2 * ones n + 1) / 2 ≡ ones n = omega arith in rw e (ones_bit n j (omega arith)))

full : (j : ℕ) → j < 64 → bit 18446744073709551615 j ≡ true
unfolding ones
full j l = ones_bit 64 j l

-- the first w words are full
pub record Filling (c : List ℕ) (w : ℕ) (d : List ℕ) : Type 0 where
  pub len : length d ≡ length c
  pub done : (x : ℕ) → x < w * 64 → has d 0 x ≡ true

pub filling_none : (c : List ℕ) → Filling c 0 c
filling_none c = record { len = refl; done = λ x l. absurd (omega arith) }

pub filling_more : {c d : List ℕ} {w : ℕ} → Filling c w d → w < 8 → w < length d → Filling c (w + 1) (set d w 18446744073709551615)
filling_more {c} {d} {w} p l h = record { len = length-set d w 18446744073709551615 ∙ p.len; done = λ x m. go x m (ℕ_discrete (x / 64) w) }
  where
    go : (x : ℕ) → x < (w + 1) * 64 → Dec (x / 64 ≡ w) → has (set d w 18446744073709551615) 0 x ≡ true
    go x m (yes e) = at_set_same d w 18446744073709551615 (0 * 512 + x) h (omega arith) ∙ full ((0 * 512 + x) % 64) (omega arith)
    go x m (no e) = at_set_other d w 18446744073709551615 (0 * 512 + x) (λ q. omega arith) ∙ p.done x (omega arith)

pub filling_all : {c d : List ℕ} {w : ℕ} → Filling c w d → w ≡ 8 → Filled c d
filling_all p e = record { len = p.len; row = λ x l. p.done x (omega arith) }
