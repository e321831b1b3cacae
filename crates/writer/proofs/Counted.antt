-- A header with another statement count: all but its last two bytes stay.
use Prim.Native.Nat.{ℕ, ◌+◌, ◌*◌, ◌-◌, ◌/◌, ◌%◌, ◌≤◌}
use native.Mathlib.Omega.{arith}
use mathlib.Core.Path.{◌≡◌, refl, sym, ap, ap₂, ◌∙◌}
use mathlib.Core.Bool.{Bool, true, false}
use mathlib.Core.List.{List, [], ◌∷◌, ◌++◌}
use lib.ListN.{length, take, replicate, length-append}
use lib.Seq.{take_at}
use lib.Dec.{eqb}
use borrow.Author.Tests.{ne_eqb, eqb-true, eqb-false}
use Rattle.book.specs.declared.header.Counts.{Counts}
use Rattle.book.specs.Read.{pick}
use Rattle.book.specs.Header.{counting}
use Rattle.book.specs.Bytes.{two_of, Place, gap, put, map_of, bytes_of, count, count_places, header_bytes}
use Rattle.writer.specs.Lay.{recounted}

abbrev four : Counts → List Place
four h = count h.classes ∷ count h.roles ∷ count h.individuals ∷ count h.concepts ∷ []

bytes_append : (ps qs : List Place) → bytes_of (ps ++ qs) ≡ bytes_of ps ++ bytes_of qs
bytes_append [] qs = refl
bytes_append (gap ∷ ps) qs = bytes_append ps qs
bytes_append (put v ∷ ps) qs = ap (λ (l : List ℕ). v % 256 ∷ v / 256 ∷ l) (bytes_append ps qs)

map-append : (ps : List Place) (qs rs : List Place) → map_of qs ≡ map_of rs → map_of (ps ++ qs) ≡ map_of (ps ++ rs)
map-append [] qs rs e = e
map-append (gap ∷ ps) qs rs e = ap (λ (n : ℕ). 2 * n) (map-append ps qs rs e)
map-append (put v ∷ ps) qs rs e = ap (λ (n : ℕ). 2 * n + 1) (map-append ps qs rs e)

-- what stands before the count of statements, where there is one
front_bytes : Counts → List ℕ
front_bytes h = map_of (four h ++ (put 1 ∷ [])) ∷ bytes_of (four h)

header_front : (h : Counts) (m : ℕ) → (m ≡ 0 → ⊥) → header_bytes (counting h m) ≡ front_bytes h ++ two_of m
unfolding header_bytes front_bytes
header_front h m d =
    let gs = replicate 11 gap in
    let q : count m ≡ put m = ap (λ (b : Bool). pick b gap (put m)) (ne_eqb m 0 d) in
    let places : count_places (counting h m) ≡ four h ++ (put m ∷ gs) = ap (λ (p : Place). four h ++ (p ∷ gs)) q in
    ap₂ (λ (a : ℕ) (b : List ℕ). a ∷ b) (ap map_of places ∙ map-append (four h) (put m ∷ gs) (put 1 ∷ []) refl) (ap bytes_of places ∙ bytes_append (four h) (put m ∷ gs))

pub header_recounts : (h : Counts) (m : ℕ) → (m ≡ 0 → h.statements ≡ 0) → (h.statements ≡ 0 → m ≡ 0) → recounted (header_bytes h) m ≡ header_bytes (counting h m)
unfolding recounted
header_recounts h m f g = go (eqb m 0) refl
  where
    go : (b : Bool) → eqb m 0 ≡ b → pick b (header_bytes h) (take (length (header_bytes h) - 2) (header_bytes h) ++ two_of m) ≡ header_bytes (counting h m)
    go true e = ap (λ (n : ℕ). header_bytes (counting h n)) (f (eqb-true m 0 e) ∙ sym (eqb-true m 0 e))
    go false e =
        let d : (m ≡ 0 → ⊥) = eqb-false m 0 e in
        let q : header_bytes h ≡ front_bytes h ++ two_of h.statements = header_front h h.statements (λ z. d (g z)) in
        let n : length (header_bytes h) - 2 ≡ length (front_bytes h) = omega (arith, ap length q, length-append (front_bytes h) (two_of h.statements)) in
        let t : take (length (header_bytes h) - 2) (header_bytes h) ≡ front_bytes h = ap₂ (λ (i : ℕ) (l : List ℕ). take i l) n q ∙ take_at (front_bytes h) (two_of h.statements) (length (front_bytes h)) refl in
        rw t (sym (header_front h m d))

pub header_two : (h : Counts) → (h.statements ≡ 0 → ⊥) → 2 ≤ length (header_bytes h)
header_two h d = omega (arith, ap length (header_front h h.statements d), length-append (front_bytes h) (two_of h.statements))
