-- Ways in the tree of kept records: each depth of a way has one record, a way ends where a child is missing, and entering a record leaves the ways of the others.
use Prim.Native.Nat.{ℕ, suc, ◌+◌, ◌*◌, ◌-◌, ◌≤◌, ◌<◌}
use native.Mathlib.Omega.{arith}
use native.Mathlib.Numerals.{add-one}
use native.Mathlib.Decide.{ℕ_discrete}
use mathlib.Core.Path.{◌≡◌, refl, sym, ap, ◌∙◌, subst}
use mathlib.Core.List.{List}
use lib.ListN.{get_or, set}
use lib.Seq.{get_or-set_other}
use Rattle.writer.specs.Record.{digit_of}
use Rattle.std.proofs.Common.{Some, None}
use Rattle.writer.specs.Tree.{Way, root, down, Match, Tree, Slot, Searched}
use Rattle.writer.proofs.Digits.{digits_alike}

module _ (child : List ℕ) (x : ℕ → ℕ) where
  pub way_one : {i j d : ℕ} → Way child x i d → Way child x j d → i ≡ j
  way_one root root = refl
  way_one (down {d = d} v p) (down w q) = ap (λ (k : ℕ). get_or child (16 * k + x d) 0) (way_one v w)

  -- past the end of a way there is nothing
  pub way_ends : {i d : ℕ} → Way child x i d → get_or child (16 * i + x d) 0 ≡ 0 → {j e : ℕ} → Way child x j e → e ≤ d
  way_ends v z root = omega arith
  way_ends {i} {d} v z (down {i = k} {d = e} w q) = go (ℕ_discrete e d) (way_ends v z w)
    where
      go : Dec (e ≡ d) → e ≤ d → suc e ≤ d
      go (yes r) l = absurd (q (subst (λ (n : ℕ). get_or child (16 * n + x e) 0 ≡ 0) (way_one (subst (λ (n : ℕ). Way child x i n) (sym r) v) w) (subst (λ (n : ℕ). get_or child (16 * i + x n) 0 ≡ 0) (sym r) z)))
      go (no r) l = omega arith

-- a child that was missing is on no way
pub way_set : (child : List ℕ) (x : ℕ → ℕ) (slot v : ℕ) → get_or child slot 0 ≡ 0 → {i d : ℕ} → Way child x i d → Way (set child slot v) x i d
way_set child x slot v z root = root
way_set child x slot v z (down {i = i} {d = d} w q) =
    let other : (16 * i + x d ≡ slot → ⊥) = (λ e. q (ap (λ (k : ℕ). get_or child k 0) e ∙ z)) in
    let same = get_or-set_other child slot (16 * i + x d) v 0 other in
    subst (λ (n : ℕ). Way (set child slot v) x n (suc d)) same (down (way_set child x slot v z w) (λ e. q (sym same ∙ e)))

-- a search has come d steps down, to record i, and none above it is the one that is looked for
pub record Walk (s : List ℕ) (count : ℕ) (child place size : List ℕ) (at n i d : ℕ) : Type 0 where
  pub low : i < count
  pub steps : d ≤ i
  pub way : Way child (digit_of s at n) i d
  pub above : (j e : ℕ) → Way child (digit_of s at n) j e → e < d → Match s place size j at n → ⊥

module _ (s : List ℕ) (count : ℕ) (child place size : List ℕ) (t : Tree s count child place size) (at n : ℕ) where
  pub walk_begin : 0 < count → Walk s count child place size at n 0 0
  walk_begin l = record { low = l; steps = omega arith; way = root; above = λ j e w m. absurd (omega arith) }

  module _ (i d x : ℕ) (w : Walk s count child place size at n i d) (unlike : Match s place size i at n → ⊥) (is : x ≡ digit_of s at n d) (small : x < 16) where
    -- nor is record i
    upto : (j e : ℕ) → Way child (digit_of s at n) j e → e < d + 1 → Match s place size j at n → ⊥
    upto j e v l m = go (ℕ_discrete e d)
      where
        go : Dec (e ≡ d) → ⊥
        go (yes q) = unlike (subst (λ (k : ℕ). Match s place size k at n) (way_one child (digit_of s at n) v (subst (λ (k : ℕ). Way child (digit_of s at n) i k) (sym q) w.way)) m)
        go (no q) = w.above j e v (omega arith) m

    below : get_or child (16 * i + x) 0 ≡ get_or child (16 * i + digit_of s at n d) 0
    below = ap (λ (k : ℕ). get_or child (16 * i + k) 0) is

    pub walk_on : (next : ℕ) → next ≡ get_or child (16 * i + x) 0 → (next ≡ 0 → ⊥) → Walk s count child place size at n next (d + 1)
    walk_on next e some =
        let q : next ≡ get_or child (16 * i + digit_of s at n d) 0 = e ∙ below in
        let after = t.later i x small (λ z. some (e ∙ z)) in
        record {
          low = omega (arith, after.1);
          steps = omega (arith, after.0, w.steps);
          way = rw (add-one, q) (down w.way (λ z. some (q ∙ z)));
          above = upto;
        }

    module _ (missing : get_or child (16 * i + x) 0 ≡ 0) where
      -- a record that is kept is on the way of its digits, and so not past the end of it
      pub walk_absent : (k : ℕ) → k < count → Match s place size k at n → ⊥
      walk_absent k l m =
          let f = t.found k l in
          let digits : digit_of s (get_or place k 0) (get_or size k 0) ≡ digit_of s at n = ap (digit_of s (get_or place k 0)) m.0 ∙ digits_alike s (get_or place k 0) at n m.1 in
          let v : Way child (digit_of s at n) k f.0 = subst (λ (y : ℕ → ℕ). Way child y k f.0) digits f.1 in
          upto k f.0 v (omega (arith, way_ends child (digit_of s at n) w.way (sym below ∙ missing) v)) m

      pub walk_slot : Slot s count child at n (16 * i + x)
      walk_slot = record { parent = i; depth = d; low = w.low; is = ap (λ (k : ℕ). 16 * i + k) is; digit = omega arith; way = w.way; free = missing }

      pub search_free : Searched s count child place size at n (Some (16 * i + x))
      search_free =
          record {
            already = λ e. absurd (let z : ◌≡◌ {A = ℕ} 0 1 = cc in omega arith);
            absent = λ slot e. walk_absent;
            belongs = λ slot e. (let q : 16 * i + x ≡ slot = cc in subst (λ (k : ℕ). Slot s count child at n k) q walk_slot);
          }

    pub walk_less : (next : ℕ) → next ≡ get_or child (16 * i + x) 0 → (next ≡ 0 → ⊥) → count - next < count - i
    walk_less next e some = let after = t.later i x small (λ z. some (e ∙ z)) in omega (arith, after.0, after.1, w.low)

  pub search_already : (i : ℕ) → i < count → Match s place size i at n → Searched s count child place size at n None
  search_already i l m =
      record {
        already = λ e. (i, l, m);
        absent = λ slot e. absurd (let z : ◌≡◌ {A = ℕ} 0 1 = cc in omega arith);
        belongs = λ slot e. absurd (let z : ◌≡◌ {A = ℕ} 0 1 = cc in omega arith);
      }
