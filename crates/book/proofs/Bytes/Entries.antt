-- Entries of a list of bytes: where they stand, and the fields of a record, laid out by their places and read by their map.
use Prim.Native.Nat.{ℕ, zero, suc, ◌+◌, ◌*◌, ◌/◌, ◌%◌, ◌≤◌, ◌<◌}
use native.Mathlib.Omega.{arith}
use mathlib.Core.Path.{◌≡◌, refl, sym, ◌∙◌, subst}
use mathlib.Core.Bool.{Bool, true, false, not}
use mathlib.Core.List.{List, [], ◌∷◌, ◌++◌, append_assoc}
use lib.ListN.{length, get_or, set, length-append, length-set}
use lib.Seq.{get_or-set_same, get_or-set_other, set-get_or, ext_get_or, get_or_at}
use lib.Dec.{ltb, leb, eqb}
use borrow.Author.Tests.{leb-true, lt-ltb, le-leb, ne_eqb}
use Rattle.book.specs.Read.{pick, value, refusal, onward, give, unless}
use Rattle.book.specs.Field.{number_at_lem, byte, two_bytes_lem, field, fields_from}
use Rattle.book.specs.Bytes.{Bytes, Has, two_of, Place, gap, put, map_of, bytes_of, fill, places_of}
use Rattle.book.proofs.Parsing.{came, held, same_value}
use Rattle.book.proofs.field.Laws.{two_read, kept}

-- where entries stand
module _ (s : List ℕ) where
  pub has_front : (l m : List ℕ) (at : ℕ) → Has s at (l ++ m) → Has s at l
  has_front [] m at h = tt
  has_front (b ∷ l) m at h = (h.0, h.1, has_front l m (at + 1) h.2)

  pub has_back : (l m : List ℕ) (at : ℕ) → Has s at (l ++ m) → Has s (at + length l) m
  has_back [] m at h = let q : at + 0 ≡ at = omega arith in rw q h
  has_back (b ∷ l) m at h = let q : at + suc (length l) ≡ at + 1 + length l = omega arith in rw q (has_back l m (at + 1) h.2)

  pub has_append : (l m : List ℕ) (at : ℕ) → Has s at l → Has s (at + length l) m → Has s at (l ++ m)
  has_append [] m at h k = let q : at + 0 ≡ at = omega arith in rw q at k
  has_append (b ∷ l) m at h k = let q : at + suc (length l) ≡ at + 1 + length l = omega arith in (h.0, h.1, has_append l m (at + 1) h.2 (rw q at k))

-- two bytes
module _ (s : List ℕ) (at v : ℕ) where
  pub two_laid : at < length s → get_or s at 0 ≡ v % 256 → at + 1 < length s → get_or s (at + 1) 0 ≡ v / 256 → two_bytes_lem s at ≡ value v (at + 2)
  unfolding two_bytes_lem
  two_laid a b c d =
      let l : at + 2 ≤ length s = omega arith in
      let q : v % 256 + 256 * (v / 256) ≡ v = omega arith in
      simp (le-leb _ _ l, b, d, q)

  pub byte_laid : at < length s → get_or s at 0 ≡ v → byte s at ≡ value v (at + 1)
  unfolding byte
  byte_laid a b = let l : at + 1 ≤ length s = omega arith in simp (le-leb _ _ l, b)

  pub field_laid : (limit absent over : ℕ) → v < limit → (v ≡ absent → ⊥) → two_bytes_lem s at ≡ value v (at + 2) → field 1 limit absent over s at ≡ value v (at + 2)
  unfolding field
  field_laid limit absent over l d t = simp (t, ne_eqb _ _ d, lt-ltb _ _ l)

-- the numbers fit in two bytes, are below their limits, and are none that an absent field has
abbrev pub Low : ℕ → ℕ → ℕ → Type 0
Low v limit absent = (v < limit) × (v ≡ absent → ⊥)

abbrev pub Fit : List ℕ → List ℕ → ℕ → List Place → Type 0
Fit limits absent k [] = Unit {0}
Fit limits absent k (gap ∷ ps) = Fit limits absent (k + 1) ps
Fit limits absent k (put v ∷ ps) = Low v (get_or limits k 0) (get_or absent k 0) × Fit limits absent (k + 1) ps

module _ (limits : List ℕ) (over : ℕ) (s : List ℕ) where
  none_laid : (n k : ℕ) (values : List ℕ) (at : ℕ) → fields_from limits over n k 0 values s at ≡ value values at
  unfolding fields_from field
  none_laid zero k values at = refl
  none_laid (suc n) k values at = rw (set-get_or values k 0) (none_laid n (k + 1) values at)

  gap_laid : (n k map : ℕ) (values : List ℕ) (at : ℕ) (w : List ℕ) (e : ℕ) → fields_from limits over n (k + 1) map values s at ≡ value w e → (onward (field 0 (get_or limits k 0) (get_or values k 0) over s at) λ v m. fields_from limits over n (k + 1) map (set values k v) s m) ≡ value w e
  unfolding field
  gap_laid n k map values at w e t = rw (set-get_or values k 0) t

  abbrev Clear : List ℕ → ℕ → List ℕ → Type 0
  Clear absent k values = (j : ℕ) → k ≤ j → j < 16 → get_or values j 0 ≡ get_or absent j 0

  pub fields_laid : (absent : List ℕ) (ps : List Place) (n k : ℕ) (values : List ℕ) (at : ℕ) → length ps ≤ n → k + n ≤ 16 → Clear absent k values → Fit limits absent k ps → Has s at (bytes_of ps) → fields_from limits over n k (map_of ps) values s at ≡ value (fill k ps values) (at + length (bytes_of ps))
  unfolding fields_from
  fields_laid absent [] n k values at a b c f h = let q : at + 0 ≡ at = omega arith in rw q (none_laid n k values at)
  fields_laid absent (gap ∷ ps) zero k values at a b c f h = absurd (omega arith)
  fields_laid absent (put v ∷ ps) zero k values at a b c f h = absurd (omega arith)
  fields_laid absent (gap ∷ ps) (suc n) k values at a b c f h =
      let m = map_of ps in
      let q : 2 * m % 2 ≡ 0 = omega arith in
      let r : 2 * m / 2 ≡ m = omega arith in
      rw (q, r) (gap_laid n k m values at _ _ (fields_laid absent ps n (k + 1) values at (omega arith) (omega arith) (λ j x y. c j (omega arith) y) f h))
  fields_laid absent (put v ∷ ps) (suc n) k values at a b c f h =
      let m = map_of ps in
      let q : (2 * m + 1) % 2 ≡ 1 = omega arith in
      let r : (2 * m + 1) / 2 ≡ m = omega arith in
      let e : get_or values k 0 ≡ get_or absent k 0 = c k (omega arith) (omega arith) in
      let t = field_laid s at v (get_or limits k 0) (get_or absent k 0) over f.0.0 f.0.1 (two_laid s at v h.0 h.1 h.2.0 h.2.1) in
      let z : at + 1 + 1 ≡ at + 2 = omega arith in
      let o : at + suc (suc (length (bytes_of ps))) ≡ at + 2 + length (bytes_of ps) = omega arith in
      let clear : Clear absent (k + 1) (set values k v) = (λ j x y. let d : (j ≡ k → ⊥) = omega arith in get_or-set_other values k j v 0 d ∙ c j (omega arith) y) in
      rw (q, r, e, t, o) (fields_laid absent ps n (k + 1) (set values k v) (at + 2) (omega arith) (omega arith) clear f.1 (rw z at h.2.2))

-- what stands from an offset to another
pub record Laid (s : List ℕ) (at e : ℕ) (l : List ℕ) : Type 0 where
  pub ends : e ≡ at + length l
  pub has : Bytes s → Has s at l

pub laid_then : {s : List ℕ} {at m e : ℕ} (l k : List ℕ) → Laid s at m l → Laid s m e k → Laid s at e (l ++ k)
laid_then {s} {at} {m} {e} l k a b =
    let q : length (l ++ k) ≡ length l + length k = length-append l k in
    record {
      ends = omega (arith, a.ends, b.ends);
      has = λ f. has_append s l k at (a.has f) (rw a.ends at (b.has f));
    }

-- the bytes of a number that was read
pub two_bytes : (s : List ℕ) (at v e : ℕ) → number_at_lem s at ≡ v → e ≡ at + 2 → at + 2 ≤ length s → Laid s at e (two_of v)
two_bytes s at v e n q l =
    record {
      ends = q;
      has = λ f.
          let a = f at (omega arith) in
          let b = f (at + 1) (omega arith) in
          (omega arith, omega arith, (omega arith, omega arith, tt));
    }

pub byte_read : (s : List ℕ) (at v e : ℕ) → byte s at ≡ value v e → Laid s at e (v ∷ [])
unfolding byte
byte_read s at v e t = go (leb (at + 1) (length s)) refl t
  where
    go : (b : Bool) → leb (at + 1) (length s) ≡ b → pick b (value (get_or s at 0) (at + 1)) (refusal 4) ≡ value v e → Laid s at e (v ∷ [])
    go true q u = let w = same_value (get_or s at 0) v (at + 1) e u in let l : at + 1 ≤ length s = leb-true _ _ q in record { ends = sym w.1; has = λ f. (omega arith, w.0, tt) }
    go false q u = absurd (let z : ◌≡◌ {A = ℕ} 0 1 = cc in omega arith)

-- a field that was read: its bytes, or none
field_bytes_lem : (bit limit absent over : ℕ) (s : List ℕ) (at v e : ℕ) → field bit limit absent over s at ≡ value v e → Laid s at e (bytes_of (pick (eqb bit 0) gap (put v) ∷ []))
unfolding field
field_bytes_lem bit limit absent over s at v e t = go (eqb bit 0) t
  where
    go : (b : Bool) → pick b (give absent) (λ s at. onward (two_bytes_lem s at) λ w m. onward (unless (not (eqb w absent)) 5 s m) λ x n. onward (unless (ltb w limit) over s n) λ y o. value w o) s at ≡ value v e → Laid s at e (bytes_of (pick b gap (put v) ∷ []))
    go true u = let w = same_value absent v at e u in record { ends = omega (arith, w.1); has = λ f. tt }
    go false u =
        let c = came (two_bytes_lem s at) _ v e u in
        let r = two_read s at c.0 c.1 c.2 in
        let a = held (not (eqb c.0 absent)) 5 s c.1 _ v e c.3 in
        let b = held (ltb c.0 limit) over s c.1 _ v e a.1 in
        let q = same_value c.0 v c.1 e b.1 in
        two_bytes s at v e (r.0 ∙ q.0) (sym q.1 ∙ r.1) r.2

bytes_cons : (p : Place) (ps : List Place) → bytes_of (p ∷ ps) ≡ bytes_of (p ∷ []) ++ bytes_of ps
bytes_cons gap ps = refl
bytes_cons (put v) ps = refl

module _ (limits : List ℕ) (over : ℕ) (s w : List ℕ) (e : ℕ) where
  pub fields_read : (n k map : ℕ) (values : List ℕ) (at : ℕ) → k + n ≤ length values → fields_from limits over n k map values s at ≡ value w e → Laid s at e (bytes_of (places_of n k map w))
  unfolding fields_from
  fields_read zero k map values at room t = let q = same_value values w at e t in record { ends = omega (arith, q.1); has = λ f. tt }
  fields_read (suc n) k map values at room t =
      let c = came (field (map % 2) (get_or limits k 0) (get_or values k 0) over s at) _ w e t in
      let here : k < length values = omega arith in
      let x : get_or w k 0 ≡ c.0 = kept limits over s w e n k (k + 1) (map / 2) (set values k c.0) c.1 (omega arith) c.3 ∙ get_or-set_same values k c.0 0 here in
      let fits : k + 1 + n ≤ length (set values k c.0) = simp length-set (omega arith) in
      let p : Place = pick (eqb (map % 2) 0) gap (put c.0) in
      let ps = places_of n (k + 1) (map / 2) w in
      let l = laid_then (bytes_of (p ∷ [])) (bytes_of ps) (field_bytes_lem (map % 2) (get_or limits k 0) (get_or values k 0) over s at c.0 c.1 c.2) (fields_read n (k + 1) (map / 2) (set values k c.0) c.1 fits c.3) in
      rw (x, bytes_cons p ps) l

-- entry by entry
pub has_at : (s l : List ℕ) (at : ℕ) → Has s at l → (i : ℕ) → i < length l → get_or s (at + i) 0 ≡ get_or l i 0
has_at s [] at h i m = absurd (omega arith)
has_at s (b ∷ l) at h zero m = let q : at + 0 ≡ at = omega arith in rw q h.1
has_at s (b ∷ l) at h (suc i) m = let q : at + suc i ≡ at + 1 + i = omega arith in rw q (has_at s l (at + 1) h.2 i (omega arith))

-- entries that fill the whole
pub has_whole : (s l : List ℕ) → length l ≡ length s → Has s 0 l → s ≡ l
has_whole s l e h = ext_get_or 0 s l (sym e) (λ i m. let q : 0 + i ≡ i = omega arith in rw q at (has_at s l 0 h i (omega arith)))

-- where entries were put
pub has_put : (a l b : List ℕ) (at : ℕ) → length a ≡ at → Has (a ++ (l ++ b)) at l
has_put a [] b at e = tt
has_put a (x ∷ l) b at e =
    let s = a ++ (x ∷ l ++ b) in
    let shift : (a ++ (x ∷ [])) ++ (l ++ b) ≡ s = append_assoc a (x ∷ []) (l ++ b) in
    let room : at < length s = omega (arith, length-append a (x ∷ l ++ b)) in
    (room, get_or_at a x (l ++ b) 0 at e, subst (λ (y : List ℕ). Has y (at + 1) l) shift (has_put (a ++ (x ∷ [])) l b (at + 1) (omega (arith, length-append a (x ∷ [])))))
