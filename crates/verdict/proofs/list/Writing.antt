-- Writing entries one after the other.
use Prim.Native.Nat.{ℕ, ◌+◌, ◌-◌, ◌/◌, ◌<◌, ◌≤◌}
use native.Mathlib.Numerals.{add-one}
use native.Mathlib.Omega.{arith}
use mathlib.Core.Path.{◌≡◌, refl, ap, sym, ◌∙◌, subst}
use mathlib.Core.List.{List, [], ◌∷◌, ◌++◌, append-nil, append_assoc}
use lib.ListN.{length, take, drop, set, replicate, length-append, length-set, replicate-append-replicate}
use lib.Seq.{take-suc-set, take-length, drop-set-lt, drop-drop}
use Rattle.rules.specs.Fact.{Two}
use Rattle.rules.specs.Lists.{entries2, filled}
use Rattle.rules.proofs.Ended.{length_entries2}
use Rattle.verdict.specs.Listing.{Written}

-- lists that are equal from k on are equal from any later place on
drop_later : (k n : ℕ) (l m : List ℕ) → k ≤ n → drop k m ≡ drop k l → drop n m ≡ drop n l
drop_later k n l m h e =
    let d : n ≡ k + (n - k) = omega arith in
    ap (λ (j : ℕ). drop j m) d ∙ (sym (drop-drop (n - k) k m) ∙ (ap (drop (n - k)) e ∙ (drop-drop (n - k) k l ∙ ap (λ (j : ℕ). drop j l) (sym d))))

-- nothing, one entry, one list of entries after another, and the same under another name
pub written_none : {l : List ℕ} {at : ℕ} → Written l at [] l at
written_none {l} {at} = record { len = refl; behind = omega arith; front = sym (append-nil (take at l)); rest = refl }

pub written_one : (l : List ℕ) (i v : ℕ) → i < length l → Written l i (v ∷ []) (set l i v) (i + 1)
written_one l i v h = record { len = length-set l i v; behind = omega arith; front = rw add-one (take-suc-set l i v h); rest = drop-set-lt (i + 1) l i v (omega arith) }

pub written_then : {l m o es fs : List ℕ} {at k end : ℕ} → Written l at es m k → Written m k fs o end → Written l at (es ++ fs) o end
written_then {l} {m} {o} {es} {fs} {at} {k} {end} w v = record {
  len = v.len ∙ w.len;
  behind = omega (arith, w.behind, v.behind, length-append es fs);
  front = v.front ∙ ap (λ (x : List ℕ). x ++ fs) w.front ∙ append_assoc (take at l) es fs;
  rest = v.rest ∙ drop_later k end l m (omega (arith, v.behind)) w.rest;
}

pub written_as : {l m es fs : List ℕ} {at end : ℕ} → es ≡ fs → Written l at es m end → Written l at fs m end
written_as {l} {m} {es} {fs} {at} {end} e w = subst (λ (x : List ℕ). Written l at x m end) e w

-- two entries, and three
pub written_two : (l : List ℕ) (i v w : ℕ) → i + 2 ≤ length l → Written l i (v ∷ w ∷ []) (set (set l i v) (i + 1) w) (i + 2)
written_two l i v w h =
    let e : i + 1 + 1 ≡ i + 2 = omega arith in
    rw e at (written_then (written_one l i v (omega arith)) (written_one (set l i v) (i + 1) w (omega (arith, length-set l i v))))

pub written_three : (l : List ℕ) (i v w x : ℕ) → i + 3 ≤ length l → Written l i (v ∷ w ∷ x ∷ []) (set (set (set l i v) (i + 1) w) (i + 2) x) (i + 3)
written_three l i v w x h =
    let e : i + 2 + 1 ≡ i + 3 = omega arith in
    rw e at (written_then (written_two l i v w (omega arith)) (written_one (set (set l i v) (i + 1) w) (i + 2) x (omega (arith, length-set (set l i v) (i + 1) w, length-set l i v))))

-- what was written from the first entry on, and 0 after it
pub written_filled : {l m es o : List ℕ} {end : ℕ} → Written l 0 es m end → o ≡ take end m ++ replicate (length m - end) 0 → o ≡ filled es (length l)
written_filled {l} {m} {es} {o} {end} w e =
    let n : length m - end ≡ length l - length es = omega (arith, w.len, w.behind) in
    e ∙ rw (w.front, n) refl

-- and how many rows of two that were
pub written_half : {l m : List ℕ} {end : ℕ} (xs : List Two) → Written l 0 (entries2 xs) m end → end / 2 ≡ length xs
written_half xs w = omega (arith, w.behind, length_entries2 xs)

-- ---- zeros

-- 0 stands from `from` on below i
pub record Cleared (l : List ℕ) (from : ℕ) (m : List ℕ) (i : ℕ) : Type 0 where
  pub low : from ≤ i
  pub high : i ≤ length l
  pub zeros : Written l from (replicate (i - from) 0) m i

-- none yet, one more, and all to the end
pub cleared_none : (l : List ℕ) (from : ℕ) → from ≤ length l → Cleared l from l from
cleared_none l from h = record { low = omega arith; high = h; zeros = written_as (let e : from - from ≡ 0 = omega arith in rw e refl) written_none }

pub cleared_more : {l m : List ℕ} {from i : ℕ} → Cleared l from m i → i < length m → Cleared l from (set m i 0) (i + 1)
cleared_more {l} {m} {from} {i} c h = record {
  low = omega (arith, c.low);
  high = omega (arith, c.zeros.len);
  zeros = written_as one (written_then c.zeros (written_one m i 0 h));
}
  where
    one : ◌++◌ {A = ℕ} (replicate (i - from) 0) (0 ∷ []) ≡ replicate (i + 1 - from) 0
    one = let e : i - from + 1 ≡ i + 1 - from = omega (arith, c.low) in replicate-append-replicate (i - from) 1 0 ∙ rw e refl

pub cleared_all : {l m : List ℕ} {from i : ℕ} → Cleared l from m i → length m ≤ i → m ≡ take from l ++ replicate (length l - from) 0
cleared_all {l} {m} {from} {i} c h =
    let e : i ≡ length m = omega (arith, c.high, c.zeros.len) in
    let f : i ≡ length l = omega (arith, c.zeros.len) in
    sym (take-length m) ∙ (rw e at c.zeros.front) ∙ ap (λ (x : ℕ). take from l ++ replicate (x - from) 0) (sym e ∙ f)
