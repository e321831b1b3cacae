-- Texts that grow by a part at a time.
use Prim.Native.Nat.{ℕ, zero, suc, ◌+◌, ◌-◌, ◌/◌, ◌%◌, ◌≤◌, ◌<◌}
use native.Mathlib.Numerals.{add-one}
use native.Mathlib.Omega.{arith}
use mathlib.Core.Path.{◌≡◌, refl}
use mathlib.Core.List.{List, [], ◌∷◌}
use lib.ListN.{length, length-take, length-drop}
use borrow.Rule.Slice.PartMut.{put_mid, same_len_mid}
use Rattle.std.proofs.lemmas.Slice.{take-put_mid, drop-put_mid}
use borrow.Author.Tests.{lt-ltb, le-ltb}
use Rattle.rules.specs.Lists.{gather}
use Rattle.verdict.specs.Listing.{Written}
use Rattle.verdict.proofs.list.Writing.{written_none, written_then, written_as}
use Rattle.text.specs.Text.{decimal}

-- a word in the place of as many bytes
pub word_put : (o word w : List ℕ) (at : ℕ) → at + length word ≤ length o → w ≡ word → Written o at word (put_mid at (at + length word - at) o w) (at + length word)
word_put o word w at h e =
    let k : at + length word - at ≡ length word = omega arith in
    rw (e, k)
    record {
      len = same_len_mid at (length word) o word (simp (length-take, length-drop) (omega arith));
      behind = refl;
      front = take-put_mid at (length word) o word (at + length word) refl (omega arith);
      rest = drop-put_mid at (length word) o word (at + length word) (omega arith) (omega arith) refl;
    }

-- one part more of several
pub gather_more : (f : ℕ → List ℕ) (i : ℕ) {o m n : List ℕ} {at here next : ℕ} → Written o at (gather i f) m here → Written m here (f i) n next → Written o at (gather (i + 1) f) n next
gather_more f i w v = written_as (rw add-one refl) (written_then w v)

-- the digits of a number: none where none may stand, one below ten, and else those of its tenth and one more
pub digits_none : (n k : ℕ) {at : ℕ} {o : List ℕ} → k ≡ 0 → Written o at (decimal k n) o at
unfolding decimal
digits_none n k e = written_as (rw e refl) written_none

pub digits_one : (n k : ℕ) {at next b : ℕ} {o m : List ℕ} → (k ≡ 0 → ⊥) → n < 10 → b ≡ 48 + n → Written o at (b ∷ []) m next → Written o at (decimal k n) m next
unfolding decimal
digits_one n zero some h e w = absurd (some refl)
digits_one n (suc k) some h e w = written_as (rw (e, lt-ltb _ _ h) refl) w

pub digits_more : (n k : ℕ) {at here next b : ℕ} {o m l : List ℕ} → (k ≡ 0 → ⊥) → 10 ≤ n → Written o at (decimal (k - 1) (n / 10)) m here → b ≡ 48 + n % 10 → Written m here (b ∷ []) l next → Written o at (decimal k n) l next
unfolding decimal
digits_more n zero some h w e v = absurd (some refl)
digits_more n (suc k) some h w e v = let p : suc k - 1 ≡ k = omega arith in written_as (rw (e, le-ltb _ _ h, p) refl) (written_then w v)
