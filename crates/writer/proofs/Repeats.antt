-- What stays has the same members, and no repeats.
use Prim.Native.Nat.{suc, ◌≤◌}
use native.Mathlib.Omega.{arith}
use mathlib.Core.Path.{◌≡◌, refl, sym, ap, ◌∙◌, subst}
use mathlib.Core.Bool.{Bool, true, false, not, ◌||◌}
use mathlib.Core.List.{List, [], ◌∷◌, ◌++◌, append_assoc}
use lib.ListN.{length, length-append}
use Rattle.rules.proofs.Tests.{not-true}
use Rattle.book.specs.declared.statement.Statement.{Statement}
use Rattle.book.specs.Bytes.{statement_bytes, statements_bytes, repeats}
use Rattle.book.specs.Within.{Every}
use Rattle.book.proofs.Bytes.{repeats_equal}
use Rattle.rules.specs.Lists.{only}
use Rattle.writer.specs.Kept.{without, repeated, kept, Different}

module _ (P : Statement → Type 0) where
  without_every : (x : Statement) (ys : List Statement) → Every P ys → Every P (without x ys)
  unfolding without
  without_every x [] h = tt
  without_every x (y ∷ ys) h = go (not (repeats x y)) (without_every x ys h.1)
    where
      go : (b : Bool) → Every P (without x ys) → Every P (only b y ++ without x ys)
      go true r = (h.0, r)
      go false r = r

  without_back : (x : Statement) (ys : List Statement) → P x → Every P (without x ys) → Every P ys
  unfolding without
  without_back x [] p h = tt
  without_back x (y ∷ ys) p h = go (repeats x y) refl h (without_back x ys p)
    where
      go : (b : Bool) → repeats x y ≡ b → Every P (only (not b) y ++ without x ys) → (Every P (without x ys) → Every P ys) → P y × Every P ys
      go true e k ih = (subst P (repeats_equal x y e) p, ih k)
      go false e k ih = (k.0, ih k.1)

  pub every_kept : (xs : List Statement) → Every P xs → Every P (kept xs)
  unfolding kept
  every_kept [] h = tt
  every_kept (x ∷ xs) h = (h.0, without_every x (kept xs) (every_kept xs h.1))

  pub kept_every : (xs : List Statement) → Every P (kept xs) → Every P xs
  unfolding kept
  kept_every [] h = tt
  kept_every (x ∷ xs) h = (h.0, kept_every xs (without_back x (kept xs) h.0 h.1))

-- no repeats
without_none : (x : Statement) (ys : List Statement) → Every (λ y. repeats x y ≡ false) (without x ys)
unfolding without
without_none x [] = tt
without_none x (y ∷ ys) = go (repeats x y) refl (without_none x ys)
  where
    go : (b : Bool) → repeats x y ≡ b → Every (λ z. repeats x z ≡ false) (without x ys) → Every (λ z. repeats x z ≡ false) (only (not b) y ++ without x ys)
    go true e r = r
    go false e r = (e, r)

without_different : (x : Statement) (ys : List Statement) → Different ys → Different (without x ys)
unfolding without
without_different x [] d = tt
without_different x (y ∷ ys) d = go (not (repeats x y)) (without_different x ys d.1)
  where
    go : (b : Bool) → Different (without x ys) → Different (only b y ++ without x ys)
    go true r = (without_every (λ z. repeats y z ≡ false) x ys d.0, r)
    go false r = r

pub different_kept : (xs : List Statement) → Different (kept xs)
unfolding kept
different_kept [] = tt
different_kept (x ∷ xs) = (without_none x (kept xs), without_different x (kept xs) (different_kept xs))

without_same : (x : Statement) (ys : List Statement) → Every (λ y. repeats x y ≡ false) ys → without x ys ≡ ys
unfolding without
without_same x [] h = refl
without_same x (y ∷ ys) h = rw h.0 (ap (λ (l : List Statement). y ∷ l) (without_same x ys h.1))

pub kept_different : (xs : List Statement) → Different xs → kept xs ≡ xs
unfolding kept
kept_different [] d = refl
kept_different (x ∷ xs) d = ap (λ (l : List Statement). x ∷ l) (ap (without x) (kept_different xs d.1) ∙ without_same x xs d.0)

-- no more than there were, and none only where there were none
without_length : (x : Statement) (ys : List Statement) → length (without x ys) ≤ length ys
unfolding without
without_length x [] = omega arith
without_length x (y ∷ ys) = go (not (repeats x y)) (without_length x ys)
  where
    go : (b : Bool) → length (without x ys) ≤ length ys → length (only b y ++ without x ys) ≤ suc (length ys)
    go true r = omega arith
    go false r = omega arith

pub kept_length : (xs : List Statement) → length (kept xs) ≤ length xs
unfolding kept
kept_length [] = omega arith
kept_length (x ∷ xs) = omega (arith, without_length x (kept xs), kept_length xs)

pub kept_none : (xs : List Statement) → length (kept xs) ≡ 0 → length xs ≡ 0
unfolding kept
kept_none [] e = refl
kept_none (x ∷ xs) e = absurd (omega arith)

-- the statements that stay are laid out in no more bytes
without_short : (x : Statement) (ys : List Statement) → length (statements_bytes (without x ys)) ≤ length (statements_bytes ys)
unfolding without statements_bytes
without_short x [] = omega arith
without_short x (y ∷ ys) = go (not (repeats x y)) (without_short x ys)
  where
    go : (b : Bool) → length (statements_bytes (without x ys)) ≤ length (statements_bytes ys) → length (statements_bytes (only b y ++ without x ys)) ≤ length (statement_bytes y ++ statements_bytes ys)
    go true r = omega (arith, length-append (statement_bytes y) (statements_bytes (without x ys)), length-append (statement_bytes y) (statements_bytes ys))
    go false r = omega (arith, length-append (statement_bytes y) (statements_bytes ys))

pub kept_short : (xs : List Statement) → length (statements_bytes (kept xs)) ≤ length (statements_bytes xs)
unfolding kept statements_bytes
kept_short [] = omega arith
kept_short (x ∷ xs) = omega (arith, length-append (statement_bytes x) (statements_bytes (without x (kept xs))), length-append (statement_bytes x) (statements_bytes xs), without_short x (kept xs), kept_short xs)

-- one more statement
without_snoc : (x : Statement) (ys zs : List Statement) → without x (ys ++ zs) ≡ without x ys ++ without x zs
unfolding without
without_snoc x [] zs = refl
without_snoc x (y ∷ ys) zs = ap (λ (l : List Statement). only (not (repeats x y)) y ++ l) (without_snoc x ys zs) ∙ sym (append_assoc (only (not (repeats x y)) y) (without x ys) (without x zs))

-- y stays unless it repeats an earlier one
pub kept_snoc : (xs : List Statement) (y : Statement) → kept (xs ++ (y ∷ [])) ≡ kept xs ++ only (not (repeated xs y)) y
unfolding kept without
kept_snoc [] y = refl
kept_snoc (x ∷ xs) y =
    ap (λ (l : List Statement). x ∷ without x l) (kept_snoc xs y)
    ∙ ap (λ (l : List Statement). x ∷ l) (without_snoc x (kept xs) (only (not (repeated xs y)) y) ∙ ap (λ (l : List Statement). without x (kept xs) ++ l) (last (repeats x y) (repeated xs y) refl))
  where
    last : (a b : Bool) → repeats x y ≡ a → without x (only (not b) y) ≡ only (not (a || b)) y
    last true true e = refl
    last true false e = rw e refl
    last false true e = refl
    last false false e = rw e refl

-- a repeat has the same source and the same days, so of two statements with different ones neither repeats the other
pub sources_read : (x y : Statement) → repeats x y ≡ true → x.source ≡ y.source
sources_read x y t = ap (λ (z : Statement). z.source) (repeats_equal x y t)

pub periods_read : (x y : Statement) → repeats x y ≡ true → (x.first ≡ y.first) × (x.last ≡ y.last)
periods_read x y t = (ap (λ (z : Statement). z.first) (repeats_equal x y t), ap (λ (z : Statement). z.last) (repeats_equal x y t))

apart_stay : (x y : Statement) → (repeats x y ≡ true → ⊥) → kept (x ∷ y ∷ []) ≡ x ∷ y ∷ []
apart_stay x y d = kept_different (x ∷ y ∷ []) ((not-true _ d, tt), (tt, tt))

pub sources_stay : (x y : Statement) → (x.source ≡ y.source → ⊥) → kept (x ∷ y ∷ []) ≡ x ∷ y ∷ []
sources_stay x y d = apart_stay x y (λ t. d (sources_read x y t))

pub periods_stay : (x y : Statement) → ((x.first ≡ y.first) × (x.last ≡ y.last) → ⊥) → kept (x ∷ y ∷ []) ≡ x ∷ y ∷ []
periods_stay x y d = apart_stay x y (λ t. d (periods_read x y t))
