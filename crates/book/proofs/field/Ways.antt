-- The loop over a record's fields: its start, its steps and its ways out.
use Prim.Native.Nat.{ℕ, zero, suc, ◌+◌, ◌-◌, ◌/◌, ◌%◌, ◌≤◌, ◌<◌}
use native.Mathlib.Omega.{arith}
use mathlib.Core.Path.{◌≡◌, refl, sym, ◌∙◌}
use mathlib.Core.List.{List}
use lib.ListN.{get_or, set}
use lib.Seq.{set-get_or}
use Rattle.book.specs.Read.{Read, value, refusal}
use Rattle.book.specs.Field.{field, fields_from, fields}

-- the loop over a map's bits: what is left of the walk, at each way on and out
module _ (limits : List ℕ) (over : ℕ) (s : List ℕ) where
  pub fields_start : (map : ℕ) (absent : List ℕ) (at : ℕ) → fields_from limits over (16 - 0) 0 map absent s at ≡ fields map limits absent over s at
  unfolding fields
  fields_start map absent at = refl

  -- no bit is left
  nothing_left : (n k : ℕ) (values : List ℕ) (at : ℕ) → fields_from limits over n k 0 values s at ≡ value values at
  unfolding fields_from field
  nothing_left zero k values at = refl
  nothing_left (suc n) k values at = rw (set-get_or values k 0) (nothing_left n (k + 1) values at)

  module _ (k map : ℕ) (values : List ℕ) (at : ℕ) (w : Read (List ℕ)) (left : fields_from limits over (16 - k) k map values s at ≡ w) where
    pub fields_early : map ≡ 0 → value values at ≡ w
    fields_early e = sym (nothing_left (16 - k) k values at) ∙ (rw e at left)

    pub fields_done : 16 ≤ k → value values at ≡ w
    unfolding fields_from
    fields_done h = let q : 16 - k ≡ 0 = omega arith in simp q at left

    pub fields_refused : (n : ℕ) → k < 16 → refusal n ≡ field (map % 2) (get_or limits k 0) (get_or values k 0) over s at → refusal n ≡ w
    unfolding fields_from
    fields_refused n h f =
        let q : 16 - k ≡ suc (16 - (k + 1)) = omega arith in
        simp (q, ← f) at left

    pub fields_step : (v next : ℕ) → k < 16 → value v next ≡ field (map % 2) (get_or limits k 0) (get_or values k 0) over s at → fields_from limits over (16 - (k + 1)) (k + 1) (map / 2) (set values k v) s next ≡ w
    unfolding fields_from
    fields_step v next h f =
        let q : 16 - k ≡ suc (16 - (k + 1)) = omega arith in
        simp (q, ← f) at left
