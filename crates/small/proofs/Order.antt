-- The laws of the order of bytes.
use Prim.Native.Nat.{ℕ}
use native.Mathlib.Omega.{arith}
use mathlib.Core.Path.{◌≡◌, refl}
use mathlib.Core.Bool.{Bool, true, false, ◌&&◌, ◌||◌}
use mathlib.Core.List.{List, [], ◌∷◌, ◌++◌}
use lib.Dec.{ltb, eqb}
use borrow.Author.Tests.{le-ltb, eq-eqb}
use Rattle.small.specs.Books.{less}

-- Less at the first byte that differs, which both have: what follows has no say.
abbrev pub apart : List ℕ → List ℕ → Bool
apart [] t = false
apart (a ∷ s) [] = false
apart (a ∷ s) (b ∷ t) = ltb a b || (eqb a b && apart s t)

false_true : {A : Type 0} → false ≡ true → A
false_true e = absurd (let o : ◌≡◌ {A = ℕ} 0 1 = cc in omega arith)

-- the step of each law below: a test of the first bytes stays, the rest goes from p to q
step : (a b p q : Bool) → (p ≡ true → q ≡ true) → (a || (b && p)) ≡ true → (a || (b && q)) ≡ true
step true b p q f t = refl
step false true p q f t = f t
step false false p q f t = t

pub apart_less : (s t : List ℕ) → apart s t ≡ true → less s t ≡ true
apart_less [] t e = false_true e
apart_less (a ∷ s) [] e = false_true e
apart_less (a ∷ s) (b ∷ t) e = step (ltb a b) (eqb a b) (apart s t) (less s t) (apart_less s t) e

-- with anything behind both
pub apart_front : (s t x y : List ℕ) → apart s t ≡ true → apart (s ++ x) (t ++ y) ≡ true
apart_front [] t x y e = false_true e
apart_front (a ∷ s) [] x y e = false_true e
apart_front (a ∷ s) (b ∷ t) x y e = step (ltb a b) (eqb a b) (apart s t) (apart (s ++ x) (t ++ y)) (apart_front s t x y) e

-- with the same before both
pub apart_behind : (c s t : List ℕ) → apart s t ≡ true → apart (c ++ s) (c ++ t) ≡ true
apart_behind [] s t e = e
apart_behind (x ∷ c) s t e = let q = apart_behind c s t e in rw (eq-eqb x x refl, le-ltb x x (omega arith)) q

-- none is less than itself
pub less_self : (s : List ℕ) → less s s ≡ false
less_self [] = refl
less_self (a ∷ s) = rw (eq-eqb a a refl, le-ltb a a (omega arith)) (less_self s)
