-- Digits of records: alike bytes have the same digits.
use Prim.Native.Nat.{ℕ, ◌+◌, ◌-◌, ◌/◌, ◌%◌, ◌≤◌, ◌<◌}
use native.Mathlib.Omega.{arith}
use mathlib.Core.Path.{◌≡◌, refl, ap, fun_ext}
use mathlib.Core.Bool.{Bool, true, false}
use mathlib.Core.List.{List}
use lib.ListN.{get_or}
use lib.Dec.{leb}
use borrow.Author.Tests.{eq-eqb, ne_eqb, le-leb, leb-false, lt-leb}
use Rattle.book.specs.Read.{pick}
use Rattle.writer.specs.Record.{Alike, half, digit_of}

pub half_low : (place byte : ℕ) → place % 2 ≡ 0 → byte % 16 ≡ half place byte
half_low place byte e = simp (eq-eqb (place % 2) 0 e)

pub half_high : (place byte : ℕ) → (place % 2 ≡ 0 → ⊥) → byte / 16 ≡ half place byte
half_high place byte d = simp (ne_eqb (place % 2) 0 d)

pub digit_past : (s : List ℕ) (at n d : ℕ) → n ≤ d / 2 → 0 ≡ digit_of s at n d
unfolding digit_of
digit_past s at n d l = simp (le-leb n (d / 2) l)

pub digit_there : (s : List ℕ) (at n d : ℕ) → d / 2 < n → half d (get_or s (at + (n - 1 - d / 2)) 0) ≡ digit_of s at n d
unfolding digit_of
digit_there s at n d l = simp (lt-leb n (d / 2) l)

pub digits_alike : (s : List ℕ) (a b n : ℕ) → Alike s a b n → digit_of s a n ≡ digit_of s b n
unfolding digit_of
digits_alike s a b n h = fun_ext (λ d. go d (leb n (d / 2)) refl)
  where
    go : (d : ℕ) (t : Bool) → leb n (d / 2) ≡ t → pick t 0 (half d (get_or s (a + (n - 1 - d / 2)) 0)) ≡ pick t 0 (half d (get_or s (b + (n - 1 - d / 2)) 0))
    go d true e = refl
    go d false e = ap (half d) (h (n - 1 - d / 2) (let l = leb-false n (d / 2) e in omega arith))
