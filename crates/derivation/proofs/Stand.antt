-- How many rows stand: what a loop that judges row after row cites at its end.
use Prim.Native.Nat.{ℕ, zero, suc, ◌/◌, ◌<◌, ◌≤◌}
use native.Mathlib.Decide.{ℕ_discrete}
use native.Mathlib.Omega.{arith}
use mathlib.Core.Path.{◌≡◌, refl, ap, sym, ◌∙◌}
use mathlib.Core.Bool.{Bool, true, false, ◌&&◌}
use mathlib.Core.List.{List}
use lib.ListN.{length}
use lib.Dec.{eqb}
use borrow.Author.Tests.{eqb-true, eq-eqb}
use Rattle.book.specs.Read.{pick}
use Rattle.book.specs.Book.{Book}
use Rattle.rules.proofs.Tests.{false_true}
use Rattle.derivation.specs.Accept.{accepts, standing, stands}

module _ (B : Book) (l : List ℕ) where
  -- all of the first n accepted
  standing_all : (n : ℕ) → ((k : ℕ) → k < n → accepts B l k ≡ true) → standing B l n ≡ n
  unfolding standing
  standing_all zero h = refl
  standing_all (suc n) h = let e = standing_all n (λ k i. h k (omega arith)) in rw (eq-eqb (standing B l n) n e, h n (omega arith)) refl

  -- and the next one not
  standing_stops : (n m : ℕ) → n ≤ m → standing B l n ≡ n → accepts B l n ≡ false → standing B l m ≡ n
  unfolding standing
  standing_stops n zero h e f = let z : n ≡ 0 = omega arith in sym z
  standing_stops n (suc m) h e f = go (ℕ_discrete n (suc m)) (λ q. standing_stops n m q e f)
    where
      next : (a b : Bool) → eqb (standing B l m) m ≡ a → accepts B l m ≡ b → standing B l m ≡ n → pick (a && b) (suc m) (standing B l m) ≡ n
      next true true p q r = let z : m ≡ n = sym (eqb-true (standing B l m) m p) ∙ r in false_true (sym f ∙ (ap (accepts B l) (sym z) ∙ q))
      next true false p q r = r
      next false b p q r = r

      go : Dec (n ≡ suc m) → (n ≤ m → standing B l m ≡ n) → pick (eqb (standing B l m) m && accepts B l m) (suc m) (standing B l m) ≡ n
      go (yes q) rest = ap (standing B l) (sym q) ∙ e
      go (no q) rest = next (eqb (standing B l m) m) (accepts B l m) refl refl (rest (omega arith))

  -- at the end of the rows, and at a row that is not accepted
  pub stands_all : ((k : ℕ) → k < length l / 9 → accepts B l k ≡ true) → stands B l ≡ length l / 9
  unfolding stands
  stands_all = standing_all (length l / 9)

  pub stands_stopped : (n : ℕ) → n ≤ length l / 9 → ((k : ℕ) → k < n → accepts B l k ≡ true) → accepts B l n ≡ false → stands B l ≡ n
  unfolding stands
  stands_stopped n h a f = standing_stops n (length l / 9) h (standing_all n a) f
