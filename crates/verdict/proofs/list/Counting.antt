-- The loops that count what is gathered.
use Prim.Native.Nat.{ℕ, ◌+◌, ◌*◌, ◌<◌, ◌≤◌, min}
use native.Mathlib.Omega.{arith}
use mathlib.Core.Path.{◌≡◌, refl, ap}
use mathlib.Core.Bool.{Bool, false, ◌&&◌}
use mathlib.Core.List.{List, [], ◌∷◌}
use lib.ListN.{length, get_or, length-append}
use lib.Dec.{ltb}
use Rattle.rows.specs.Row.{has, Scan}
use Rattle.rules.specs.Fact.{two}
use Rattle.rules.specs.Lists.{gather, only}
use Rattle.verdict.specs.Listing.{behind_of, pairs_of_lem}
use Rattle.verdict.proofs.list.Gathers.{gather_more, gather_over, gather_few, gather_many, only_true, only_false}

-- i is count and the members below p and n
pub record Counted (m : ℕ → Bool) (n count p i : ℕ) : Type 0 where
  pub tally : i ≡ count + length (gather (min p n) (λ k. only (m k) k))

module _ {m : ℕ → Bool} {n count : ℕ} where
  -- none yet, and one more
  pub counted_start : (p : ℕ) → ((k : ℕ) → k < p → m k ≡ false) → Counted m n count p count
  counted_start p h = record { tally = rw (gather_over 0 (min p n) (λ k. only (m k) k) (omega arith) (λ k a l. only_false k (h k (omega arith)))) (omega arith) }

  module _ {p i : ℕ} (c : Counted m n count p i) where
    pub counted_more : {b : ℕ} → Scan m p n b → b < n → Counted m n count (b + 1) (i + 1)
    counted_more {b} s l =
        let q : min (b + 1) n ≡ b + 1 = omega arith in
        let r : min p n ≡ p = omega (arith, s.ge) in
        record { tally = rw (q, gather_more b (λ k. only (m k) k), gather_over p b (λ k. only (m k) k) s.ge (λ k a h. only_false k (s.gap k a h)), only_true b (s.hit l)) (omega (arith, rw r at c.tally, length-append (gather p (λ k. only (m k) k)) (b ∷ []))) }

    -- at most n of them, and at the end all
    pub counted_few : i ≤ count + n
    counted_few = omega (arith, c.tally, gather_few (min p n) m (λ k. k))

    pub counted_all : {A : Type 0} (x : ℕ → A) → Scan m p n n → i ≡ count + length (gather n (λ k. only (m k) (x k)))
    counted_all x s =
        let r : min p n ≡ p = omega (arith, s.ge) in
        omega (arith, rw r at c.tally, ap length (gather_over p n (λ k. only (m k) k) s.ge (λ k a h. only_false k (s.gap k a h))), gather_many n m (λ k. k) x)

-- count is how many pairs the first i individuals have with those behind them, at most 512 each
pub record CountedPairs (K G : List ℕ) (n i count : ℕ) : Type 0 where
  pub below : i ≤ n
  pub tally : count ≡ length (gather i (λ x. behind_of x G (get_or K x 0) n))
  pub few : count ≤ i * 512

-- no row yet, one more, and all
pub pairs_none : (K G : List ℕ) (n : ℕ) → CountedPairs K G n 0 0
pairs_none K G n = record { below = omega arith; tally = refl; few = omega arith }

module _ {K G : List ℕ} {n i count : ℕ} (c : CountedPairs K G n i count) where
  pub pairs_next : i < n → n ≤ 512 → {r : ℕ} → r ≡ count + length (behind_of i G (get_or K i 0) n) → CountedPairs K G n (i + 1) r
  pairs_next l h {r} e = record {
    below = omega arith;
    tally =
        rw (gather_more i (λ x. behind_of x G (get_or K x 0) n))
        (omega (arith, c.tally, length-append (gather i (λ x. behind_of x G (get_or K x 0) n)) (behind_of i G (get_or K i 0) n)));
    few = omega (arith, c.few, gather_few n (λ b. ltb i b && has G (get_or K i 0) b) (two i));
  }

  pub pairs_all : n ≤ i → count ≡ length (pairs_of_lem K G n)
  unfolding pairs_of_lem
  pairs_all l = let e : i ≡ n = omega (arith, c.below) in rw e at c.tally
