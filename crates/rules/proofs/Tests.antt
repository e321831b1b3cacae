-- Boolean tests.
use Prim.Native.Nat.{ℕ, zero, suc, ◌<◌}
use native.Mathlib.Decide.{ℕ_discrete}
use native.Mathlib.Omega.{arith}
use mathlib.Core.Path.{◌≡◌, refl, sym, subst, ◌∙◌}
use mathlib.Core.Bool.{Bool, true, false, ◌&&◌, ◌||◌}
use mathlib.Core.List.{List, [], ◌∷◌, ◌++◌}
use mathlib.Core.Logic.{◌⊎◌, inl, inr, ⊎_elim}
use Rattle.rules.specs.Rule.{any, some}
use Rattle.rules.specs.Brought.{from}
use Rattle.book.specs.Within.{Every}

pub false_true : {A : Type 0} → false ≡ true → A
false_true e = absurd (let z : ◌≡◌ {A = ℕ} 0 1 = cc in omega arith)

pub not-true : (b : Bool) → (b ≡ true → ⊥) → b ≡ false
not-true true h = absurd (h refl)
not-true false h = refl

pub stable : (b : Bool) → ¬ ¬ (b ≡ true) → b ≡ true
stable true h = refl
stable false h = absurd (h (λ e. false_true e))

pub both_ways : (a b : Bool) → (a ≡ true → b ≡ true) → (b ≡ true → a ≡ true) → a ≡ b
both_ways true b p q = sym (p refl)
both_ways false true p q = q refl
both_ways false false p q = refl

pub or_cases : (a b : Bool) → (a || b) ≡ true → (a ≡ true) ⊎ (b ≡ true)
or_cases true b e = inl refl
or_cases false b e = inr e

pub or_right : (a b : Bool) → b ≡ true → (a || b) ≡ true
or_right true b e = refl
or_right false b e = e

pub or_left : (a b : Bool) → a ≡ true → (a || b) ≡ true
or_left true b e = refl
or_left false b e = false_true e

pub and_both : (a b : Bool) → (a && b) ≡ true → (a ≡ true) × (b ≡ true)
and_both true b e = (refl, e)
and_both false b e = false_true e

pub and_intro : (a b : Bool) → a ≡ true → b ≡ true → (a && b) ≡ true
and_intro true b e f = f
and_intro false b e f = false_true e

pub any_some : (n : ℕ) (f : ℕ → Bool) → any n f ≡ true → (k : ℕ) × (k < n) × (f k ≡ true)
any_some zero f e = false_true e
any_some (suc n) f e = ⊎_elim (λ a. (n, omega arith, a)) (λ b. let r = any_some n f b in (r.0, omega (arith, r.1), r.2)) (or_cases (f n) (any n f) e)

pub some_any : (n : ℕ) (f : ℕ → Bool) (k : ℕ) → k < n → f k ≡ true → any n f ≡ true
some_any zero f k l e = absurd (omega arith)
some_any (suc n) f k l e = go (ℕ_discrete k n) (λ q. some_any n f k q e)
  where
    go : Dec (k ≡ n) → (k < n → any n f ≡ true) → (f n || any n f) ≡ true
    go (yes q) r = or_left (f n) (any n f) (subst (λ (x : ℕ). f x ≡ true) q e)
    go (no q) r = or_right (f n) (any n f) (r (omega arith))

-- tests that agree below n
pub any_same : (n : ℕ) (f g : ℕ → Bool) → ((k : ℕ) → k < n → f k ≡ g k) → any n f ≡ any n g
any_same zero f g h = refl
any_same (suc n) f g h = rw (h n (omega arith), any_same n f g (λ k l. h k (omega arith))) refl

-- tests that fail
pub or_none : (a b : Bool) → (a || b) ≡ false → (a ≡ false) × (b ≡ false)
or_none true b e = false_true (sym e)
or_none false b e = (refl, e)

pub any_none : (n : ℕ) (f : ℕ → Bool) → any n f ≡ false → (k : ℕ) → k < n → f k ≡ false
any_none n f e k l = not-true (f k) (λ q. false_true (sym e ∙ some_any n f k l q))

-- members of lists
module _ {A : Type 0} where
  -- what holds of every member holds of one that passes a test, and there is one
  pub every_some : (P : A → Type 0) (f : A → Bool) (l : List A) → Every P l → some l f ≡ true → (x : A) × P x × (f x ≡ true)
  every_some P f [] h e = false_true e
  every_some P f (x ∷ l) h e = ⊎_elim (λ a. (x, h.0, a)) (λ b. every_some P f l h.1 b) (or_cases (f x) (some l f) e)

  pub some_none : (f : A → Bool) (l : List A) → some l f ≡ false → Every (λ x. f x ≡ false) l
  some_none f [] e = tt
  some_none f (x ∷ l) e = let r = or_none (f x) (some l f) e in (r.0, some_none f l r.1)

  pub every_append : (P : A → Type 0) (s t : List A) → Every P s → Every P t → Every P (s ++ t)
  every_append P [] t h k = k
  every_append P (x ∷ s) t h k = (h.0, every_append P s t h.1 k)

  pub every_left : (P : A → Type 0) (s t : List A) → Every P (s ++ t) → Every P s
  every_left P [] t h = tt
  every_left P (x ∷ s) t h = (h.0, every_left P s t h.1)

  pub every_right : (P : A → Type 0) (s t : List A) → Every P (s ++ t) → Every P t
  every_right P [] t h = h
  every_right P (x ∷ s) t h = every_right P s t h.1

  pub every_map : (P Q : A → Type 0) → ((x : A) → P x → Q x) → (l : List A) → Every P l → Every Q l
  every_map P Q f [] h = tt
  every_map P Q f (x ∷ l) h = (f x h.0, every_map P Q f l h.1)

  pub every_zip : (P Q R : A → Type 0) → ((x : A) → P x → Q x → R x) → (l : List A) → Every P l → Every Q l → Every R l
  every_zip P Q R f [] h k = tt
  every_zip P Q R f (x ∷ l) h k = (f x h.0 k.0, every_zip P Q R f l h.1 k.1)

  pub every_and : (P Q : A → Type 0) (l : List A) → Every P l → Every Q l → Every (λ x. P x × Q x) l
  every_and P Q = every_zip P Q (λ x. P x × Q x) (λ x h k. (h, k))

  pub every_swap : {X : Type 0} (P : X → A → Type 0) (l : List A) → ((x : X) → Every (P x) l) → Every (λ a. (x : X) → P x a) l
  every_swap P [] h = tt
  every_swap P (a ∷ l) h = (λ x. (h x).0, every_swap P l (λ x. (h x).1))

  pub every_all : (P : A → Type 0) → ((x : A) → P x) → (l : List A) → Every P l
  every_all P f [] = tt
  every_all P f (x ∷ l) = (f x, every_all P f l)

module _ {A B : Type 0} where
  pub every_from : (P : A → Type 0) (Q : B → Type 0) (f : A → List B) → ((x : A) → P x → Every Q (f x)) → (l : List A) → Every P l → Every Q (from l f)
  every_from P Q f h [] k = tt
  every_from P Q f h (x ∷ l) k = every_append Q (f x) (from l f) (h x k.0) (every_from P Q f h l k.1)

  pub from_every : (Q : B → Type 0) (f : A → List B) (l : List A) → Every Q (from l f) → Every (λ x. Every Q (f x)) l
  from_every Q f [] h = tt
  from_every Q f (x ∷ l) h = (every_left Q (f x) (from l f) h, from_every Q f l (every_right Q (f x) (from l f) h))
