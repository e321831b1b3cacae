-- Lines over the entries of a list, so many entries to a line.
use Prim.Native.Nat.{ℕ, suc, ◌+◌, ◌-◌, ◌*◌, ◌/◌, ◌≤◌, ◌<◌}
use native.Mathlib.Nat.{le-div_iff_mul-le, zero-mul, suc-mul}
use native.Mathlib.Numerals.{add-one}
use native.Mathlib.Omega.{arith}
use mathlib.Core.Path.{◌≡◌, refl, sym}
use mathlib.Core.List.{List}
use lib.ListN.{length, take, drop, length-take, length-drop}
use Rattle.rules.specs.Lists.{gather}
use Rattle.verdict.specs.Listing.{Written}
use Rattle.verdict.proofs.list.Writing.{written_none, written_as}
use Rattle.text.specs.Text.{line, lines}
use Rattle.text.proofs.Puts.{gather_more}

-- k lines of w entries each were put, those of the entries below `from`
pub record Lined (word l : List ℕ) (w : ℕ) (o : List ℕ) (at : ℕ) (m : List ℕ) (here from k : ℕ) : Type 0 where
  pub place : from ≡ k * w
  pub room : here ≤ at + 13 * from
  pub written : Written o at (gather k λ j. line word (take w (drop (j * w) l))) m here

-- none yet
pub lined_none : (word l : List ℕ) (w : ℕ) {o : List ℕ} {at : ℕ} → Lined word l w o at o at 0 0
lined_none word l w = record { place = sym (zero-mul w); room = omega arith; written = written_none }

-- the entries of one more line are there
pub lined_within : (n w k : ℕ) {from : ℕ} → 0 < w → from ≡ k * w → k < n / w → from + w ≤ n
lined_within n w k h p b = let e = suc-mul k w in let d = (le-div_iff_mul-le {k = w} {x = suc k} {y = n} h).0 b in omega (arith, e, d)

-- and so many
pub line_entries : (l : List ℕ) (from w : ℕ) → from + w ≤ length l → length (take (from + w - from) (drop from l)) ≡ w
line_entries l from w h = simp (length-take, length-drop) (omega arith)

-- one line more
pub lined_more : {word l : List ℕ} {w : ℕ} {o : List ℕ} {at : ℕ} {m : List ℕ} {here from k : ℕ} {r : List ℕ} {next : ℕ} → Lined word l w o at m here from k
    → Written m here (line word (take (from + w - from) (drop from l))) r next → next ≤ here + 13 * w → Lined word l w o at r next (from + w) (k + 1)
lined_more {word} {l} {w} {o} {at} {m} {here} {from} {k} i v b =
    let d : from + w - from ≡ w = omega arith in
    record {
      place = rw (add-one, suc-mul, i.place) refl;
      room = omega (arith, i.room);
      written = gather_more _ k i.written (written_as (rw (d, i.place) refl) v);
    }

-- all
pub lined_all : {word l : List ℕ} {w : ℕ} {o : List ℕ} {at : ℕ} {m : List ℕ} {here from k : ℕ} → Lined word l w o at m here from k → k ≡ length l / w → Written o at (lines word w l) m here
unfolding lines
lined_all i e = written_as (rw e refl) i.written
