-- The loops that list a row word by word, and a word bit by bit.
use Prim.Native.Nat.{ℕ, ◌+◌, ◌-◌, ◌%◌, ◌<◌, ◌≤◌, min}
use native.Mathlib.Omega.{arith}
use mathlib.Core.Path.{◌≡◌, refl, ap, sym, ◌∙◌}
use mathlib.Core.Bool.{Bool}
use mathlib.Core.List.{List, [], ◌∷◌}
use lib.ListN.{length}
use Rattle.rows.specs.Row.{Scan}
use Rattle.rows.specs.Bits.{Lowest}
use Rattle.rows.proofs.row.Walks.{Rest, rest_scan, rest_none, rest_next}
use Rattle.rules.specs.Lists.{gather, only}
use Rattle.verdict.specs.Listing.{Written}
use Rattle.verdict.proofs.list.Gathers.{gather_plus, only_false}
use Rattle.verdict.proofs.list.Rows.{Lays, Listed, listed_start, listed_to, members_more, members_room, listed_all, block_room}
use Rattle.verdict.proofs.list.Writing.{written_none, written_then, written_as}

-- the lowest bit of what is left of a word is the next member of its block
rest_lowest : {f : ℕ → Bool} {p i y j z : ℕ} → Rest f p i y → Lowest y j z → (n : ℕ) → Scan (λ k. f (i + k)) (p - i) n j
rest_lowest {f} {p} {i} r w n = let s = rest_scan r w in record {
  ge = omega (arith, s.ge);
  gap = λ k a l. s.gap (i + k) (omega arith) (omega arith);
  hit = λ l. s.hit (omega (arith, w.lt));
}

-- y is what is left of the block of i, and x of each member of it below n that is not in y was written
pub record Bits {A : Type 0} (e : List A → List ℕ) (f : ℕ → Bool) (x : ℕ → A) (i n : ℕ) (l : List ℕ) (at y : ℕ) (o : List ℕ) (end : ℕ) : Type 0 where
  pub upto : ℕ
  pub rest : Rest f upto i y
  pub listed : Listed e (λ j. only (f (i + j)) (x (i + j))) (min 64 (n - i)) l at (upto - i) o end

module _ {A : Type 0} {e : List A → List ℕ} (a : Lays e) {f : ℕ → Bool} (x : ℕ → A) {i n : ℕ} {l : List ℕ} {at : ℕ} where
  -- none yet, and one member more
  pub bits_start : {y : ℕ} → Rest f i i y → Bits e f x i n l at y l at
  bits_start r = record { upto = i; rest = r; listed = listed_start a (i - i) (λ k h. absurd (omega arith)) }

  module _ {y end : ℕ} {o : List ℕ} (d : Bits e f x i n l at y o end) {j z : ℕ} (w : Lowest y j z) where
    s : Scan (λ k. f (i + k)) (d.upto - i) (min 64 (n - i)) j
    s = rest_lowest d.rest w (min 64 (n - i))

    module _ (h : i + j < n) where
      h' : j < min 64 (n - i)
      h' = omega (arith, w.lt)

      here : Listed e (λ j. only (f (i + j)) (x (i + j))) (min 64 (n - i)) l at j o end
      here = listed_to a (λ k g q. only_false (x (i + k)) q) d.listed s (omega (arith, h'))

      pub bits_more : {p : List ℕ} {k : ℕ} → Written o end (e (x (i + j) ∷ [])) p k → Bits e f x i n l at z p k
      bits_more v =
          let q : i + j + 1 - i ≡ j + 1 = omega arith in
          record {
            upto = i + j + 1;
            rest = rest_next d.rest w f (λ k m u. refl);
            listed = rw q (members_more a (λ j. f (i + j)) (λ j. x (i + j)) here h' (s.hit h') v);
          }

      -- room for it
      pub bits_room : at + length (e (gather (min 64 (n - i)) (λ j. only (f (i + j)) (x (i + j))))) ≤ length l → end + length (e (x (i + j) ∷ [])) ≤ length o
      bits_room r = members_room a (λ j. f (i + j)) (λ j. x (i + j)) here h' (s.hit h') r

    -- where the next one is not below n, all were written
    pub bits_past : n ≤ i + j → Written l at (e (gather (min 64 (n - i)) (λ j. only (f (i + j)) (x (i + j))))) o end
    bits_past h = listed_all a (λ k g q. only_false (x (i + k)) q) d.listed (λ k q r. s.gap k q (omega arith))

  -- and where nothing is left
  pub bits_all : {y end : ℕ} {o : List ℕ} → Bits e f x i n l at y o end → y ≡ 0 → Written l at (e (gather (min 64 (n - i)) (λ j. only (f (i + j)) (x (i + j))))) o end
  bits_all {y} d z = listed_all a (λ k g q. only_false (x (i + k)) q) d.listed (λ k q r. (rest_none (i + 64) d.rest z).none (i + k) (omega (arith, d.rest.ge)) (omega arith) (omega arith))

-- what f gives for the numbers below w and n was written, and a word starts at w
pub record Words {A : Type 0} (e : List A → List ℕ) (f : ℕ → List A) (n : ℕ) (l : List ℕ) (at w : ℕ) (o : List ℕ) (i : ℕ) : Type 0 where
  pub start : w % 64 ≡ 0
  pub written : Written l at (e (gather (min w n) f)) o i

module _ {A : Type 0} {e : List A → List ℕ} (a : Lays e) {f : ℕ → List A} {n : ℕ} {l : List ℕ} {at : ℕ} where
  -- none yet, one word more, room for it, and at the end all
  pub words_start : Words e f n l at 0 l at
  words_start = record { start = refl; written = written_as (let z : min 0 n ≡ 0 = omega arith in rw z (sym a.none)) written_none }

  module _ {w i : ℕ} {o : List ℕ} (d : Words e f n l at w o i) where
    pub words_more : w < n → {p : List ℕ} {j : ℕ} → Written o i (e (gather (min 64 (n - w)) (λ j. f (w + j)))) p j → Words e f n l at (w + 64) p j
    words_more h v =
        let q : min w n ≡ w = omega arith in
        let u : min (w + 64) n ≡ w + min 64 (n - w) = omega arith in
        record { start = omega (arith, d.start); written = written_as (rw (q, u) (sym (ap e (gather_plus w _ f) ∙ a.append (gather w f) _))) (written_then d.written v) }

    pub words_room : at + length (e (gather n f)) ≤ length l → w < n → i + length (e (gather (min 64 (n - w)) (λ j. f (w + j)))) ≤ length o
    words_room r h = let q : min w n ≡ w = omega arith in block_room a f w (rw q at d.written) n r (min 64 (n - w)) (omega arith)

    pub words_all : n ≤ w → Written l at (e (gather n f)) o i
    words_all h = let q : min w n ≡ n = omega arith in rw q at d.written
