-- One use of a rule, as what it takes and gives; and the same with its premises in the order in which the rule asks for them.
use Prim.Native.Nat.{ℕ, zero, suc, ◌<◌}
use native.Mathlib.Omega.{arith}
use mathlib.Core.Path.{◌≡◌, refl, ap, subst}
use mathlib.Core.Bool.{Bool, true, false}
use mathlib.Core.List.{List, [], ◌∷◌}
use mathlib.Core.Logic.{◌⊎◌, inl, inr, ⊎_elim}
use lib.ListN.{length}
use borrow.Author.Tests.{eqb-true, eq-eqb}
use Rattle.book.specs.Within.{Every}
use Rattle.rules.specs.Rule.{Set, Rule, keep, when, each, both, given, yields}
use Rattle.rules.proofs.Tests.{false_true, or_cases, or_left, or_right, and_both, and_intro, any_some, some_any}
use Rattle.derivation.specs.Rows.{none}

module _ (P : Set) (f : ℕ) where
  -- the individuals and classes it is used for, and the facts of P that it takes; the fact f is what it gives
  abbrev pub Uses : Rule → Type 0
  Uses (keep k) = f ≡ k
  Uses (when k R) = (P k ≡ true) × Uses R
  Uses (each n R) = (k : ℕ) × (k < n) × Uses (R k)
  Uses (both R S) = Uses R ⊎ Uses S

  pub uses : (R : Rule) → yields R P f ≡ true → Uses R
  uses (keep k) e = eqb-true f k e
  uses (when k R) e = let a = and_both (P k) (yields R P f) e in (a.0, uses R a.1)
  uses (each n R) e = let a = any_some n (λ k. yields (R k) P f) e in (a.0, a.1, uses (R a.0) a.2)
  uses (both R S) e = ⊎_elim (λ a. inl (uses R a)) (λ b. inr (uses S b)) (or_cases (yields R P f) (yields S P f) e)

  pub used_by : (R : Rule) → Uses R → yields R P f ≡ true
  used_by (keep k) u = eq-eqb f k u
  used_by (when k R) u = and_intro (P k) (yields R P f) u.0 (used_by R u.1)
  used_by (each n R) u = some_any n (λ k. yields (R k) P f) u.0 u.1 (used_by (R u.0) u.2)
  used_by (both R S) u = ⊎_elim (λ a. or_left (yields R P f) (yields S P f) (used_by R a)) (λ b. or_right (yields R P f) (yields S P f) (used_by S b)) u

  -- under a test
  pub uses_given : (b : Bool) (R : Rule) → Uses (given b R) → (b ≡ true) × Uses R
  uses_given true R u = (refl, u)
  uses_given false R u = absurd (let a = u.1 in omega arith)

  pub given_uses : (b : Bool) (R : Rule) → b ≡ true → Uses R → Uses (given b R)
  given_uses true R e u = u
  given_uses false R e u = false_true e

-- the premises of a use, in order; those behind the last that is asked for are not looked at
module _ (f : ℕ) where
  abbrev pub Orders : Rule → List ℕ → Type 0
  Orders (keep k) gs = f ≡ k
  Orders (when k R) [] = ⊥
  Orders (when k R) (g ∷ gs) = (g < none) × (g ≡ k) × Orders R gs
  Orders (each n R) gs = (k : ℕ) × (k < n) × Orders (R k) gs
  Orders (both R S) gs = Orders R gs ⊎ Orders S gs

  pub orders_given : (b : Bool) (R : Rule) (gs : List ℕ) → Orders (given b R) gs → (b ≡ true) × Orders R gs
  orders_given true R gs u = (refl, u)
  orders_given false R gs u = absurd (let a = u.1 in omega arith)

  pub given_orders : (b : Bool) (R : Rule) (gs : List ℕ) → b ≡ true → Orders R gs → Orders (given b R) gs
  given_orders true R gs e u = u
  given_orders false R gs e u = false_true e

  pub orders_uses : (P : Set) (R : Rule) (gs : List ℕ) → Every (λ g. g < none → P g ≡ true) gs → Orders R gs → Uses P f R
  orders_uses P (keep k) gs h u = u
  orders_uses P (when k R) [] h u = absurd u
  orders_uses P (when k R) (g ∷ gs) h u = (subst (λ (x : ℕ). P x ≡ true) u.1 (h.0 u.0), orders_uses P R gs h.1 u.2)
  orders_uses P (each n R) gs h u = (u.0, u.1, orders_uses P (R u.0) gs h u.2)
  orders_uses P (both R S) gs h u = ⊎_elim (λ a. inl (orders_uses P R gs h a)) (λ b. inr (orders_uses P S gs h b)) u

  -- a rule asks for at most n premises
  abbrev pub Asks : ℕ → Rule → Type 0
  Asks n (keep k) = Unit {0}
  Asks zero (when k R) = ⊥
  Asks (suc n) (when k R) = Asks n R
  Asks n (each m R) = (k : ℕ) → Asks n (R k)
  Asks n (both R S) = Asks n R × Asks n S

  module _ (P : Set) (p : ℕ) (Slot : ℕ → Type 0) (slot : Slot p) (taken : (g : ℕ) → P g ≡ true → (g < none) × Slot g) where
    padding : (n : ℕ) → (gs : List ℕ) × (length gs ≡ n) × Every Slot gs
    padding zero = ([], refl, tt)
    padding (suc n) = let r = padding n in (p ∷ r.0, ap suc r.1, (slot, r.2))

    -- so there is an order of that many
    pub uses_orders : (n : ℕ) (R : Rule) → Asks n R → Uses P f R → (gs : List ℕ) × (length gs ≡ n) × Every Slot gs × Orders R gs
    uses_orders n (keep k) a u = let r = padding n in (r.0, r.1, r.2, u)
    uses_orders zero (when k R) a u = absurd a
    uses_orders (suc n) (when k R) a u =
        let r = uses_orders n R a u.1 in
        let t = taken k u.0 in
        (k ∷ r.0, ap suc r.1, (t.1, r.2), (t.0, refl, r.3))
    uses_orders n (each m R) a u = let r = uses_orders n (R u.0) (a u.0) u.2 in (r.0, r.1, r.2, (u.0, u.1, r.3))
    uses_orders n (both R S) a u =
        ⊎_elim (λ v. let r = uses_orders n R a.0 v in (r.0, r.1, r.2, inl r.3)) (λ v. let r = uses_orders n S a.1 v in (r.0, r.1, r.2, inr r.3)) u
