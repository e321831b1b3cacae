-- One more record in the tree.
use Prim.Native.Nat.{ℕ, suc, ◌+◌, ◌*◌, ◌≤◌, ◌<◌}
use native.Mathlib.Omega.{arith}
use native.Mathlib.Decide.{ℕ_discrete, dec_lt}
use mathlib.Core.Path.{◌≡◌, refl, sym, ap, ◌∙◌, subst}
use mathlib.Core.List.{List}
use lib.ListN.{length, get_or, set, replicate, length-set, length-replicate, get_or-replicate, get_or-eq_default}
use lib.Seq.{get_or-set_same, get_or-set_other}
use Rattle.writer.specs.Record.{digit_of}
use Rattle.writer.specs.Tree.{Way, root, down, Match, Tree, Slot, Kept, Room}
use Rattle.writer.proofs.Ways.{way_set}

pub tree_empty : (s child place size : List ℕ) → ((j : ℕ) → get_or child j 0 ≡ 0) → Tree s 0 child place size
tree_empty s child place size none =
    record {
      places = omega arith;
      sizes = omega arith;
      room = omega arith;
      inside = λ k l. absurd (omega arith);
      later = λ i x l some. absurd (some (none (16 * i + x)));
      found = λ k l. absurd (omega arith);
    }

pub slot_room : {s : List ℕ} {count : ℕ} {child : List ℕ} {at n slot : ℕ} → Slot s count child at n slot → 16 * count ≤ length child → slot < length child
slot_room p l = omega (arith, p.low, p.is, p.digit)

module _ (s : List ℕ) (count : ℕ) (child place size : List ℕ) (t : Tree s count child place size) (at n : ℕ) (fits : at + n ≤ length s) (room₁ : 16 * (count + 1) ≤ length child) (room₂ : count < length place) (room₃ : count < length size) where
  abbrev place' : List ℕ
  place' = set place count at

  abbrev size' : List ℕ
  size' = set size count n

  insides : (k : ℕ) → k < count + 1 → get_or place' k 0 + get_or size' k 0 ≤ length s
  insides k l = go (ℕ_discrete k count)
    where
      go : Dec (k ≡ count) → get_or place' k 0 + get_or size' k 0 ≤ length s
      go (yes e) = rw (e, get_or-set_same place count at 0 room₂, get_or-set_same size count n 0 room₃) fits
      go (no e) = rw (get_or-set_other place count k at 0 e, get_or-set_other size count k n 0 e) (t.inside k (omega arith))

  -- whatever the children are now: they are later ones, the old records are on their ways, and so is the new one
  tree_of_lem : (child' : List ℕ) → length child' ≡ length child → ((i x : ℕ) → x < 16 → (get_or child' (16 * i + x) 0 ≡ 0 → ⊥) → (i < get_or child' (16 * i + x) 0) × (get_or child' (16 * i + x) 0 < count + 1)) → ((x : ℕ → ℕ) (k d : ℕ) → Way child x k d → Way child' x k d) → ((d : ℕ) × Way child' (digit_of s at n) count d) → Tree s (count + 1) child' place' size'
  tree_of_lem child' long later' stays last =
      record {
        places = simp length-set (omega arith);
        sizes = simp length-set (omega arith);
        room = omega arith;
        inside = insides;
        later = later';
        found = λ k l. go k l (ℕ_discrete k count);
      }
    where
      go : (k : ℕ) → k < count + 1 → Dec (k ≡ count) → (d : ℕ) × Way child' (digit_of s (get_or place' k 0) (get_or size' k 0)) k d
      go k l (yes e) = rw (e, get_or-set_same place count at 0 room₂, get_or-set_same size count n 0 room₃) last
      go k l (no e) =
          let f = t.found k (omega arith) in
          rw (get_or-set_other place count k at 0 e, get_or-set_other size count k n 0 e) (f.0, stays (digit_of s (get_or place k 0) (get_or size k 0)) k f.0 f.1)

  -- the first is the root
  pub tree_first : count ≡ 0 → Tree s (count + 1) child place' size'
  tree_first z =
      tree_of_lem child refl (λ i x l some. let a = t.later i x l some in (a.0, omega (arith, a.1))) (λ x k d w. w) (0, subst (λ (k : ℕ). Way child (digit_of s at n) k 0) (sym z) root)

  -- any other goes where it belongs
  module _ (slot : ℕ) (p : Slot s count child at n slot) where
    abbrev child' : List ℕ
    child' = set child slot count

    slot_low : slot < length child
    slot_low = slot_room p (omega arith)

    parent_of : (i x : ℕ) → x < 16 → 16 * i + x ≡ slot → i ≡ p.parent
    parent_of i x l e = omega (arith, p.is, p.digit)

    later' : (i x : ℕ) → x < 16 → (get_or child' (16 * i + x) 0 ≡ 0 → ⊥) → (i < get_or child' (16 * i + x) 0) × (get_or child' (16 * i + x) 0 < count + 1)
    later' i x l some = go (ℕ_discrete (16 * i + x) slot)
      where
        go : Dec (16 * i + x ≡ slot) → (i < get_or child' (16 * i + x) 0) × (get_or child' (16 * i + x) 0 < count + 1)
        go (yes e) =
            let q : get_or child' (16 * i + x) 0 ≡ count = ap (λ (k : ℕ). get_or child' k 0) e ∙ get_or-set_same child slot count 0 slot_low in
            rw q (omega (arith, parent_of i x l e, p.low), omega arith)
        go (no e) =
            let q : get_or child' (16 * i + x) 0 ≡ get_or child (16 * i + x) 0 = get_or-set_other child slot (16 * i + x) count 0 e in
            let a = t.later i x l (λ z. some (q ∙ z)) in
            rw q (a.0, omega (arith, a.1))

    last : (0 < count) → (d : ℕ) × Way child' (digit_of s at n) count d
    last some =
        let q : get_or child' (16 * p.parent + digit_of s at n p.depth) 0 ≡ count = ap (λ (k : ℕ). get_or child' k 0) (sym p.is) ∙ get_or-set_same child slot count 0 slot_low in
        (suc p.depth, subst (λ (k : ℕ). Way child' (digit_of s at n) k (suc p.depth)) q (down (way_set child (digit_of s at n) slot count p.free p.way) (λ z. omega (arith, q))))

    pub tree_new : Tree s (count + 1) child' place' size'
    tree_new = tree_of_lem child' (length-set child slot count) later' (λ x k d w. way_set child x slot count p.free w) (last (omega (arith, p.low)))

-- the ways out
pub kept_old : (s : List ℕ) (count : ℕ) (place size : List ℕ) (at n : ℕ) → ((k : ℕ) × (k < count) × Match s place size k at n) → Kept s count place size at n count place size
kept_old s count place size at n m = record { same = λ k l. (refl, refl); there = λ e. m; new = λ d. absurd (d refl) }

pub kept_new : (s : List ℕ) (count : ℕ) (place size : List ℕ) (at n : ℕ) → count < length place → count < length size → ((k : ℕ) → k < count → Match s place size k at n → ⊥) → Kept s count place size at n (count + 1) (set place count at) (set size count n)
kept_new s count place size at n p q none =
    record {
      same = λ k l. (let d : (k ≡ count → ⊥) = omega arith in (get_or-set_other place count k at 0 d, get_or-set_other size count k n 0 d));
      there = λ e. absurd (omega arith);
      new = λ d. (refl, get_or-set_same place count at 0 p, get_or-set_same size count n 0 q, none);
    }

-- words of 0 are a tree without records
zeros : (n i : ℕ) → get_or {A = ℕ} (replicate n 0) i 0 ≡ 0
zeros n i = go (dec_lt i n)
  where
    go : Dec (i < n) → get_or {A = ℕ} (replicate n 0) i 0 ≡ 0
    go (yes l) = get_or-replicate n i 0 0 l
    go (no l) = get_or-eq_default (replicate n 0) 0 (omega (arith, length-replicate {0} {A = ℕ} n 0))

within : (n m : ℕ) → m ≤ n → m ≤ length (replicate {A = ℕ} n 0)
within n m l = subst (λ (k : ℕ). m ≤ k) (sym (length-replicate {0} {A = ℕ} n 0)) l

pub room_blank : (s : List ℕ) (n a b : ℕ) → 16 * n ≤ a → n ≤ b → Room s n (replicate a 0) (replicate b 0) (replicate b 0)
room_blank s n a b l m =
    record { tree = tree_empty s (replicate a 0) (replicate b 0) (replicate b 0) (zeros a); children = within a (16 * n) l; places = within b n m; sizes = within b n m }
