-- Loops that look for a number that passes a test.
use Prim.Native.Nat.{ℕ, zero, suc, ◌+◌, ◌<◌, ◌≤◌}
use mathlib.Core.Path.{◌≡◌, refl, sym, ◌∙◌}
use mathlib.Core.Bool.{Bool, true, false, ◌&&◌, ◌||◌}
use native.Mathlib.Numerals.{add-one}
use native.Mathlib.Decide.{dec_le, dec_lt}
use native.Mathlib.Omega.{arith}
use Rattle.rows.specs.Row.{Scan, Meets}
use Rattle.rows.proofs.row.Scans.{Past}
use Rattle.rules.specs.Rule.{any}
use Rattle.rules.proofs.Tests.{not-true, and_both, and_intro, any_some, some_any}

-- one number more
pub any_more : (n : ℕ) (f : ℕ → Bool) → any (n + 1) f ≡ (f n || any n f)
any_more n f = rw add-one

-- tests that agree below n
pub any_same : (n : ℕ) (f g : ℕ → Bool) → ((i : ℕ) → i < n → f i ≡ g i) → any n f ≡ any n g
any_same zero f g h = refl
any_same (suc n) f g h = rw (h n (omega arith), any_same n f g (λ i l. h i (omega arith)))

-- a test that nothing from p on below q passes
any_skip : (f : ℕ → Bool) (p q : ℕ) → p ≤ q → ((i : ℕ) → p ≤ i → i < q → f i ≡ false) → any q f ≡ any p f
any_skip f p zero l h = let e : p ≡ 0 = omega arith in rw e
any_skip f p (suc q) l h = go (dec_le p q) (λ m. any_skip f p q m (λ i a b. h i a (omega arith)))
  where
    go : Dec (p ≤ q) → (p ≤ q → any q f ≡ any p f) → any (suc q) f ≡ any p f
    go (yes m) r = rw (h q m (omega arith)) (r m)
    go (no m) r = let e : p ≡ suc q = omega arith in rw e

-- a test and one that fails
and_not : (a b : Bool) → b ≡ false → (a && b) ≡ false
and_not true b e = e
and_not false b e = refl

-- ---- a loop over all numbers, in each turn of which r is what f says of c

module _ {f : ℕ → Bool} {c : ℕ} where
  -- c does not pass
  pub past_more : {r : Bool} → Past f 0 c → r ≡ f c → r ≡ false → Past f 0 (c + 1)
  past_more p a b = record { ge = omega arith; gap = λ j l m. go j m (dec_lt j c) }
    where
      go : (j : ℕ) → j < c + 1 → Dec (j < c) → f j ≡ false
      go j m (yes l) = p.gap j (omega arith) l
      go j m (no l) = let q : j ≡ c = omega arith in rw q (sym a ∙ b)

  -- nothing passes
  pub past_end : {n : ℕ} → Past f 0 c → n ≤ c → false ≡ any n f
  past_end {n} p l = sym (any_skip f 0 n (omega arith) (λ i a b. p.gap i a (omega arith)))

-- c passes
pub past_found : (f : ℕ → Bool) (c n : ℕ) {r : Bool} → c < n → r ≡ f c → r ≡ true → true ≡ any n f
past_found f c n l a b = sym (some_any n f c l (sym a ∙ b))

-- ---- a loop over the numbers that pass f, up to one that passes g

past_to : (f g : ℕ → Bool) {n p d : ℕ} → Past (λ x. f x && g x) 0 p → Scan f p n d → Past (λ x. f x && g x) 0 d
past_to f g {n} {p} {d} s z = record { ge = omega arith; gap = λ j l m. go j m (dec_lt j p) }
  where
    go : (j : ℕ) → j < d → Dec (j < p) → (f j && g j) ≡ false
    go j m (yes l) = s.gap j (omega arith) l
    go j m (no l) = rw (z.gap j (omega arith) m)

-- none below p passes both f and g
abbrev pub Sought : (ℕ → Bool) → (ℕ → Bool) → ℕ → Type 0
Sought f g p = Past (λ x. f x && g x) 0 p

-- the next that passes f, which is d, does not pass g, as r says
pub sought_next : (f g : ℕ → Bool) {n p d : ℕ} {r : Bool} → Sought f g p → Scan f p n d → r ≡ g d → r ≡ false → Sought f g (d + 1)
sought_next f g {n} {p} {d} s z a b = past_more (past_to f g s z) refl (and_not (f d) (g d) (sym a ∙ b))

-- none is left
pub sought_end : (f g : ℕ → Bool) {n p : ℕ} → Sought f g p → Scan f p n n → false ≡ any n (λ x. f x && g x)
sought_end f g s z = past_end (past_to f g s z) (omega arith)

-- it passes g, as r says
pub sought_found : (f g : ℕ → Bool) {n d : ℕ} {r : Bool} → d < n → f d ≡ true → r ≡ g d → r ≡ true → true ≡ any n (λ x. f x && g x)
sought_found f g {n} {d} l h a b = sym (some_any n (λ x. f x && g x) d l (and_intro (f d) (g d) h (sym a ∙ b)))

-- whether two tests have a number in common, as one test
pub meets_any : {f g : ℕ → Bool} {n : ℕ} {r : Bool} → Meets f g n r → r ≡ any n (λ i. f i && g i)
meets_any {f} {g} {n} {r} m = go r m
  where
    go : (r : Bool) → Meets f g n r → r ≡ any n (λ i. f i && g i)
    go true m = let s = m.some refl in sym (some_any n (λ i. f i && g i) s.0 s.1 (and_intro (f s.0) (g s.0) s.2 s.3))
    go false m =
        sym (not-true (any n (λ i. f i && g i)) (λ e.
        let s = any_some n (λ i. f i && g i) e in
        let b = and_both (f s.0) (g s.0) s.2 in
        m.none refl s.0 s.1 b.0 b.1))
