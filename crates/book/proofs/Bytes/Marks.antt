-- Fields that have a value for an absent one: their places, their map, and what they fill in.
use Prim.Native.Nat.{ℕ, zero, suc, ◌+◌, ◌*◌, ◌/◌, ◌%◌, ◌≤◌, ◌<◌}
use native.Mathlib.Omega.{arith}
use mathlib.Core.Path.{◌≡◌, refl, sym, ap, ap₂, ◌∙◌, subst}
use mathlib.Core.Bool.{Bool, true, false, not}
use mathlib.Core.List.{List, [], ◌∷◌, ◌++◌}
use lib.ListN.{length, get_or, set, replicate, length-set}
use lib.Seq.{get_or-set_same, get_or-set_other, set-get_or}
use lib.Dec.{ltb, eqb}
use borrow.Author.Tests.{eqb-true, eqb-false, eq-eqb, not-true}
use Rattle.book.specs.Read.{pick, value, onward, give, unless}
use Rattle.book.specs.Field.{two_bytes_lem, field, fields_from}
use Rattle.book.specs.Bytes.{Place, gap, put, map_of, bytes_of, mark, fill, places_of}
use Rattle.book.proofs.Parsing.{came, held, same_value}
use Rattle.book.proofs.field.Laws.{bit_at, kept}
use Rattle.book.proofs.Bytes.Entries.{Fit}

-- the map of the places that a map has
abbrev pub Small : ℕ → ℕ → Type 0
Small zero map = map ≡ 0
Small (suc n) map = Small n (map / 2)

pub small_zero : (n : ℕ) → Small n 0
small_zero zero = refl
small_zero (suc n) = small_zero n

pub places_map : (n k map : ℕ) (w : List ℕ) → Small n map → map_of (places_of n k map w) ≡ map
places_map zero k map w l = sym l
places_map (suc n) k map w l = go (eqb (map % 2) 0) refl (places_map n (k + 1) (map / 2) w l)
  where
    go : (b : Bool) → eqb (map % 2) 0 ≡ b → map_of (places_of n (k + 1) (map / 2) w) ≡ map / 2 → map_of (pick b gap (put (get_or w k 0)) ∷ places_of n (k + 1) (map / 2) w) ≡ map
    go true e r = let q : map % 2 ≡ 0 = eqb-true _ _ e in omega arith
    go false e r = let q : map % 2 ≡ 0 → ⊥ = eqb-false _ _ e in omega arith

-- no bits, no fields
pub gaps : (n k : ℕ) (w : List ℕ) → places_of n k 0 w ≡ replicate n gap
gaps zero k w = refl
gaps (suc n) k w = ap (λ (l : List Place). gap ∷ l) (gaps n (k + 1) w)

-- gaps behind change nothing
pub gaps_map : (ps : List Place) (n : ℕ) → map_of (ps ++ replicate n gap) ≡ map_of ps
gaps_map [] zero = refl
gaps_map [] (suc n) = let q = gaps_map [] n in omega arith
gaps_map (gap ∷ ps) n = ap (λ (m : ℕ). 2 * m) (gaps_map ps n)
gaps_map (put v ∷ ps) n = ap (λ (m : ℕ). 2 * m + 1) (gaps_map ps n)

pub gaps_bytes : (ps : List Place) (n : ℕ) → bytes_of (ps ++ replicate n gap) ≡ bytes_of ps
gaps_bytes [] zero = refl
gaps_bytes [] (suc n) = gaps_bytes [] n
gaps_bytes (gap ∷ ps) n = gaps_bytes ps n
gaps_bytes (put v ∷ ps) n = ap (λ (l : List ℕ). v % 256 ∷ v / 256 ∷ l) (gaps_bytes ps n)

-- the low bits of two maps
pub bits_places : (n k a b : ℕ) (w : List ℕ) → ((j : ℕ) → j < n → bit_at a j ≡ bit_at b j) → places_of n k a w ≡ places_of n k b w
bits_places zero k a b w f = refl
bits_places (suc n) k a b w f =
    ap₂ (λ (m : ℕ) (l : List Place). pick (eqb m 0) gap (put (get_or w k 0)) ∷ l) (f 0 (omega arith))
    (bits_places n (k + 1) (a / 2) (b / 2) w (λ j l. f (suc j) (omega arith)))

-- places by their values
abbrev pub marks_from : List ℕ → ℕ → ℕ → List ℕ → List Place
marks_from absent zero k w = []
marks_from absent (suc n) k w = mark (get_or absent k 0) (get_or w k 0) ∷ marks_from absent n (k + 1) w

-- where no field is written with the value of an absent one, the values show their map
module _ (limits : List ℕ) (over : ℕ) (s w : List ℕ) (e : ℕ) where
  mark_place : (bit limit absent at v m : ℕ) → field bit limit absent over s at ≡ value v m → pick (eqb bit 0) gap (put v) ≡ mark absent v
  unfolding field
  mark_place bit limit absent at v m t = go (eqb bit 0) t
    where
      go : (b : Bool) → pick b (give absent) (λ s at. onward (two_bytes_lem s at) λ w m. onward (unless (not (eqb w absent)) 5 s m) λ x n. onward (unless (ltb w limit) over s n) λ y o. value w o) s at ≡ value v m → pick b gap (put v) ≡ mark absent v
      go true u =
          let q : absent ≡ v = (same_value absent v at m u).0 in
          let d : eqb v absent ≡ true = eq-eqb v absent (sym q) in
          ap (λ (x : Bool). pick x gap (put v)) (sym d)
      go false u =
          let c = came (two_bytes_lem s at) _ v m u in
          let a = held (not (eqb c.0 absent)) 5 s c.1 _ v m c.3 in
          let b = held (ltb c.0 limit) over s c.1 _ v m a.1 in
          let q : c.0 ≡ v = (same_value c.0 v c.1 m b.1).0 in
          let d : eqb v absent ≡ false = not-true _ (subst (λ (x : ℕ). not (eqb x absent) ≡ true) q a.0) in
          ap (λ (x : Bool). pick x gap (put v)) (sym d)

  pub marks_placed : (absent : List ℕ) (n k map : ℕ) (values : List ℕ) (at : ℕ) → k + n ≤ length values → ((j : ℕ) → k ≤ j → j < k + n → get_or values j 0 ≡ get_or absent j 0) → fields_from limits over n k map values s at ≡ value w e → places_of n k map w ≡ marks_from absent n k w
  unfolding fields_from
  marks_placed absent zero k map values at room clear t = refl
  marks_placed absent (suc n) k map values at room clear t =
      let c = came (field (map % 2) (get_or limits k 0) (get_or values k 0) over s at) _ w e t in
      let here : k < length values = omega arith in
      let x : get_or w k 0 ≡ c.0 = kept limits over s w e n k (k + 1) (map / 2) (set values k c.0) c.1 (omega arith) c.3 ∙ get_or-set_same values k c.0 0 here in
      let fits : k + 1 + n ≤ length (set values k c.0) = simp length-set (omega arith) in
      let later : (j : ℕ) → k + 1 ≤ j → j < k + 1 + n → get_or (set values k c.0) j 0 ≡ get_or absent j 0 = (λ j a b. let d : (j ≡ k → ⊥) = omega arith in get_or-set_other values k j c.0 0 d ∙ clear j (omega arith) (omega arith)) in
      let p = mark_place (map % 2) (get_or limits k 0) (get_or values k 0) at c.0 c.1 c.2 in
      let z : mark (get_or values k 0) c.0 ≡ mark (get_or absent k 0) (get_or w k 0) = ap₂ (λ (a : ℕ) (v : ℕ). mark a v) (clear k (omega arith) (omega arith)) (sym x) in
      let q : pick (eqb (map % 2) 0) gap (put (get_or w k 0)) ≡ mark (get_or absent k 0) (get_or w k 0) = ap (λ (v : ℕ). pick (eqb (map % 2) 0) gap (put v)) x ∙ (p ∙ z) in
      ap₂ (λ (a : Place) (l : List Place). a ∷ l) q (marks_placed absent n (k + 1) (map / 2) (set values k c.0) c.1 fits later c.3)

-- such a field fits, and what is filled in is its value
pub mark_fit : (limits absent : List ℕ) (k a c : ℕ) (ps : List Place) → get_or absent k 0 ≡ a → c < get_or limits k 0 → Fit limits absent (k + 1) ps → Fit limits absent k (mark a c ∷ ps)
mark_fit limits absent k a c ps z l f = go (eqb c a) refl
  where
    go : (b : Bool) → eqb c a ≡ b → Fit limits absent k (pick b gap (put c) ∷ ps)
    go true e = f
    go false e = ((l, λ q. eqb-false c a e (q ∙ z)), f)

pub fit_append : (limits absent : List ℕ) (k : ℕ) (ps qs : List Place) → Fit limits absent k ps → Fit limits absent (k + length ps) qs → Fit limits absent k (ps ++ qs)
fit_append limits absent k [] qs f g = let q : k + 0 ≡ k = omega arith in rw q at g
fit_append limits absent k (gap ∷ ps) qs f g = let q : k + suc (length ps) ≡ k + 1 + length ps = omega arith in fit_append limits absent (k + 1) ps qs f (rw q at g)
fit_append limits absent k (put v ∷ ps) qs f g = let q : k + suc (length ps) ≡ k + 1 + length ps = omega arith in (f.0, fit_append limits absent (k + 1) ps qs f.1 (rw q at g))

pub mark_map : (a c : ℕ) (ps : List Place) → map_of (mark a c ∷ ps) ≤ 2 * map_of ps + 1
mark_map a c ps = go (eqb c a)
  where
    go : (b : Bool) → map_of (pick b gap (put c) ∷ ps) ≤ 2 * map_of ps + 1
    go true = omega arith
    go false = omega arith

-- a map shifted by n bits
abbrev pub shifted : ℕ → ℕ → ℕ
shifted zero m = m
shifted (suc n) m = 2 * shifted n m

pub map-append : (ps qs : List Place) → map_of (ps ++ qs) ≡ map_of ps + shifted (length ps) (map_of qs)
map-append [] qs = omega arith
map-append (gap ∷ ps) qs = let r = map-append ps qs in omega arith
map-append (put v ∷ ps) qs = let r = map-append ps qs in omega arith

pub fill_append : (k : ℕ) (ps qs : List Place) (values : List ℕ) → fill k (ps ++ qs) values ≡ fill (k + length ps) qs (fill k ps values)
fill_append k [] qs values = let q : k + 0 ≡ k = omega arith in rw q refl
fill_append k (gap ∷ ps) qs values = let q : k + suc (length ps) ≡ k + 1 + length ps = omega arith in rw q (fill_append (k + 1) ps qs values)
fill_append k (put v ∷ ps) qs values = let q : k + suc (length ps) ≡ k + 1 + length ps = omega arith in rw q (fill_append (k + 1) ps qs (set values k v))

pub mark_fill : (k a c : ℕ) (ps : List Place) (values : List ℕ) → get_or values k 0 ≡ a → fill k (mark a c ∷ ps) values ≡ fill (k + 1) ps (set values k c)
mark_fill k a c ps values z = go (eqb c a) refl
  where
    go : (b : Bool) → eqb c a ≡ b → fill k (pick b gap (put c) ∷ ps) values ≡ fill (k + 1) ps (set values k c)
    go true e = let q : c ≡ get_or values k 0 = eqb-true c a e ∙ sym z in rw (q, set-get_or values k 0) refl
    go false e = refl
