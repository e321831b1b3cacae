-- What is gathered: one number more, gaps, scans, and how much it is.
use Prim.Native.Nat.{ℕ, zero, suc, ◌+◌, ◌<◌, ◌≤◌}
use native.Mathlib.Decide.{ℕ_discrete}
use native.Mathlib.Numerals.{add-one}
use native.Mathlib.Omega.{arith}
use mathlib.Core.Path.{◌≡◌, refl, ap, sym, ◌∙◌}
use mathlib.Core.Bool.{Bool, true, false, ◌&&◌}
use mathlib.Core.List.{List, [], ◌∷◌, ◌++◌, append-nil, append_assoc}
use lib.ListN.{length, length-append}
use lib.Dec.{ltb}
use borrow.Author.Tests.{lt-ltb, le-ltb}
use Rattle.rows.specs.Row.{Scan}
use Rattle.rules.specs.Lists.{gather, only}
use Rattle.rules.proofs.Tests.{and_intro}
use Rattle.rules.proofs.Sums.{sum_agree, length_gather, length_only, length_only_le}

module _ {A : Type 0} where
  -- one number more
  pub gather_more : (n : ℕ) (f : ℕ → List A) → gather (n + 1) f ≡ gather n f ++ f n
  gather_more n f = rw add-one refl

  -- d numbers more
  pub gather_plus : (m d : ℕ) (f : ℕ → List A) → gather (m + d) f ≡ gather m f ++ gather d (λ j. f (m + j))
  gather_plus m zero f = let e : m + 0 ≡ m = omega arith in rw e (sym (append-nil (gather m f)))
  gather_plus m (suc d) f =
      let e : m + suc d ≡ suc (m + d) = omega arith in
      rw e (ap (λ (r : List A). r ++ f (m + d)) (gather_plus m d f) ∙ append_assoc (gather m f) (gather d (λ j. f (m + j))) (f (m + d)))

  -- two that give the same for each number
  pub gather_agree : (n : ℕ) (f g : ℕ → List A) → ((k : ℕ) → k < n → f k ≡ g k) → gather n f ≡ gather n g
  gather_agree zero f g h = refl
  gather_agree (suc n) f g h = rw (gather_agree n f g (λ k l. h k (omega arith)), h n (omega arith)) refl

  -- a gap adds nothing
  pub gather_over : (m n : ℕ) (f : ℕ → List A) → m ≤ n → ((k : ℕ) → m ≤ k → k < n → f k ≡ []) → gather n f ≡ gather m f
  gather_over m zero f l h = let e : m ≡ 0 = omega arith in rw e refl
  gather_over m (suc n) f l h = go (ℕ_discrete m (suc n)) (λ q. gather_over m n f q (λ k a c. h k a (omega arith)))
    where
      go : Dec (m ≡ suc n) → (m ≤ n → gather n f ≡ gather m f) → gather n f ++ f n ≡ gather m f
      go (yes e) r = rw e refl
      go (no q) r = rw (h n (omega arith) (omega arith)) (append-nil (gather n f) ∙ r (omega arith))

  -- one thing under a test that holds, nothing under one that fails
  pub only_true : {b : Bool} (x : A) → b ≡ true → only b x ≡ x ∷ []
  only_true x e = rw e refl

  pub only_false : {b : Bool} (x : A) → b ≡ false → only b x ≡ []
  only_false x e = rw e refl

  -- at most one for each number
  pub gather_few : (n : ℕ) (m : ℕ → Bool) (x : ℕ → A) → length (gather n (λ k. only (m k) (x k))) ≤ n
  gather_few zero m x = omega arith
  gather_few (suc n) m x = omega (arith, length-append (gather n (λ k. only (m k) (x k))) (only (m n) (x n)), length_only_le (m n) (x n), gather_few n m x)

and-false : (a : Bool) → (a && false) ≡ false
and-false true = refl
and-false false = refl

-- and as many of one thing as of another
pub gather_many : {A B : Type 0} (n : ℕ) (m : ℕ → Bool) (x : ℕ → A) (y : ℕ → B) → length (gather n (λ k. only (m k) (x k))) ≡ length (gather n (λ k. only (m k) (y k)))
gather_many n m x y =
    length_gather n (λ k. only (m k) (x k)) ∙ sum_agree n _ (λ k. length (only (m k) (y k))) (λ k l. length_only (m k) (x k) ∙ sym (length_only (m k) (y k)))
    ∙ sym (length_gather n (λ k. only (m k) (y k)))

-- a scan from behind a number on is one of the members behind it
pub none_behind : (m : ℕ → Bool) (first k : ℕ) → k < first + 1 → (ltb first k && m k) ≡ false
none_behind m first k l = ap (λ (b : Bool). b && m k) (le-ltb first k (omega arith))

pub scan_behind : {m : ℕ → Bool} {first p n r : ℕ} → first < p → Scan m p n r → Scan (λ b. ltb first b && m b) p n r
scan_behind {m} {first} {p} {n} {r} h s = record {
  ge = s.ge;
  gap = λ i a l. ap (λ (x : Bool). ltb first i && x) (s.gap i a l) ∙ and-false (ltb first i);
  hit = λ l. and_intro (ltb first r) (m r) (lt-ltb first r (omega (arith, s.ge))) (s.hit l);
}
