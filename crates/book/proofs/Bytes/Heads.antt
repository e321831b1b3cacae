-- The header as bytes: it is read back, and what was read is laid out so.
use Prim.Native.Nat.{ℕ, suc, ◌+◌, ◌*◌, ◌/◌, ◌≤◌, ◌<◌}
use native.Mathlib.Omega.{arith}
use mathlib.Core.Path.{◌≡◌, refl, sym, ap, ap₂, ◌∙◌, subst}
use mathlib.Core.List.{List, [], ◌∷◌}
use lib.ListN.{length, set, replicate}
use lib.Dec.{ltb}
use borrow.Author.Tests.{ltb-true, lt-ltb}
use Rattle.book.specs.declared.header.Counts.{Counts}
use Rattle.book.specs.Read.{value}
use Rattle.book.specs.Header.{count_limits, no_counts, counts_of_lem, header, Limits}
use Rattle.book.specs.Field.{byte, fields_from, fields}
use Rattle.book.specs.Bytes.{Has, Place, gap, map_of, bytes_of, count, count_places, header_bytes, fill, places_of}
use Rattle.book.proofs.Parsing.{came, held, same_value}
use Rattle.book.proofs.Bytes.Entries.{byte_laid, Fit, fields_laid, Laid, laid_then, byte_read, fields_read}
use Rattle.book.proofs.Bytes.Marks.{Small, small_zero, places_map, gaps, marks_from, marks_placed, mark_fit, mark_map, mark_fill}

module _ (m : ℕ) (l : m < 32) where
  fifth : m / 2 / 2 / 2 / 2 / 2 ≡ 0
  fifth = omega arith

  small : Small 16 m
  small = rw fifth (small_zero 11)

  five : (p₀ p₁ p₂ p₃ p₄ c₀ c₁ c₂ c₃ c₄ : Place) (ps cs gs : List Place) → (p₀ ∷ p₁ ∷ p₂ ∷ p₃ ∷ p₄ ∷ ps) ≡ (c₀ ∷ c₁ ∷ c₂ ∷ c₃ ∷ c₄ ∷ cs) → ps ≡ gs → (p₀ ∷ p₁ ∷ p₂ ∷ p₃ ∷ p₄ ∷ ps) ≡ (c₀ ∷ c₁ ∷ c₂ ∷ c₃ ∷ c₄ ∷ gs)
  five p₀ p₁ p₂ p₃ p₄ c₀ c₁ c₂ c₃ c₄ ps cs gs q r =
      let a : p₀ ≡ c₀ = cc in
      let b : p₁ ≡ c₁ = cc in
      let c : p₂ ≡ c₂ = cc in
      let d : p₃ ≡ c₃ = cc in
      let e : p₄ ≡ c₄ = cc in
      cc

  heads : (w : List ℕ) → places_of 16 0 m w ≡ marks_from no_counts 16 0 w → places_of 16 0 m w ≡ count_places (counts_of_lem w)
  heads w q = five _ _ _ _ _ _ _ _ _ _ _ _ _ q (ap (λ (x : ℕ). places_of 11 5 x w) fifth ∙ gaps 11 5 w)

room : 0 + 16 ≤ length no_counts
room = omega arith

module _ (s : List ℕ) (at : ℕ) (h : Counts) (e : ℕ) where
  pub header_read : header s at ≡ value h e → Laid s at e (header_bytes h)
  unfolding header header_bytes fields
  header_read t =
      let a = came (byte s at) _ h e t in
      let b = held (ltb a.0 32) 5 s a.1 _ h e a.3 in
      let c = came (fields_from count_limits 6 16 0 a.0 no_counts s a.1) _ h e b.1 in
      let q = same_value (counts_of_lem c.0) h c.1 e c.3 in
      let l : a.0 < 32 = ltb-true _ _ b.0 in
      let r = laid_then (a.0 ∷ []) (bytes_of (places_of 16 0 a.0 c.0)) (byte_read s at a.0 a.1 a.2) (fields_read count_limits 6 s c.0 c.1 16 0 a.0 no_counts a.1 room c.2) in
      headed a.0 l c.0 c.1 q.0 q.1 (marks_placed count_limits 6 s c.0 c.1 no_counts 16 0 a.0 no_counts a.1 room (λ j a b. refl) c.2) r
    where
      headed : (m : ℕ) → m < 32 → (w : List ℕ) (f : ℕ) → counts_of_lem w ≡ h → f ≡ e → places_of 16 0 m w ≡ marks_from no_counts 16 0 w → Laid s at f (m ∷ bytes_of (places_of 16 0 m w)) → Laid s at e (map_of (count_places h) ∷ bytes_of (count_places h))
      headed m l w f q o p r =
          let p' : places_of 16 0 m w ≡ count_places (counts_of_lem w) = heads m l w p in
          let n : map_of (count_places (counts_of_lem w)) ≡ m = ap map_of (sym p') ∙ places_map 16 0 m w (small m l) in
          subst (λ (x : Counts). Laid s at e (map_of (count_places x) ∷ bytes_of (count_places x))) q
          (subst (λ (x : ℕ). Laid s at e (x ∷ bytes_of (count_places (counts_of_lem w)))) (sym n)
          (subst (λ (x : List Place). Laid s at e (m ∷ bytes_of x)) p' (subst (λ (x : ℕ). Laid s at x (m ∷ bytes_of (places_of 16 0 m w))) o r)))

header_of : (s : List ℕ) (at m a : ℕ) (v : List ℕ) (e : ℕ) → byte s at ≡ value m a → m < 32 → fields m count_limits no_counts 6 s a ≡ value v e → header s at ≡ value (counts_of_lem v) e
unfolding header
header_of s at m a v e t l f = simp (t, lt-ltb _ _ l, f)

module _ (s : List ℕ) (h : Counts) (lim : Limits h) where
  counts_map : map_of (count_places h) < 32
  counts_map =
      let gs = replicate 11 gap in
      let s₄ = mark_map 0 h.statements gs in
      let s₃ = mark_map 0 h.concepts (count h.statements ∷ gs) in
      let s₂ = mark_map 0 h.individuals (count h.concepts ∷ count h.statements ∷ gs) in
      let s₁ = mark_map 0 h.roles (count h.individuals ∷ count h.concepts ∷ count h.statements ∷ gs) in
      let s₀ = mark_map 0 h.classes (count h.roles ∷ count h.individuals ∷ count h.concepts ∷ count h.statements ∷ gs) in
      nested _ _ _ _ _ s₄ s₃ s₂ s₁ s₀
    where
      nested : (a b c d e : ℕ) → a ≤ 2 * 0 + 1 → b ≤ 2 * a + 1 → c ≤ 2 * b + 1 → d ≤ 2 * c + 1 → e ≤ 2 * d + 1 → e < 32
      nested a b c d e p q r s t = omega arith

  counts_fit : Fit count_limits no_counts 0 (count_places h)
  counts_fit =
      mark_fit count_limits no_counts 0 0 h.classes (count h.roles ∷ count h.individuals ∷ count h.concepts ∷ count h.statements ∷ replicate 11 gap) refl (omega (arith, lim.classes_top))
      (mark_fit count_limits no_counts 1 0 h.roles (count h.individuals ∷ count h.concepts ∷ count h.statements ∷ replicate 11 gap) refl (omega (arith, lim.roles_top))
      (mark_fit count_limits no_counts 2 0 h.individuals (count h.concepts ∷ count h.statements ∷ replicate 11 gap) refl (omega (arith, lim.individuals_top))
      (mark_fit count_limits no_counts 3 0 h.concepts (count h.statements ∷ replicate 11 gap) refl (omega (arith, lim.concepts_top))
      (mark_fit count_limits no_counts 4 0 h.statements (replicate 11 gap) refl (omega (arith, lim.statements_top)) tt))))

  counts_filled : counts_of_lem (fill 0 (count_places h) no_counts) ≡ h
  counts_filled =
      let gs = replicate 11 gap in
      let v₁ = set no_counts 0 h.classes in
      let v₂ = set v₁ 1 h.roles in
      let v₃ = set v₂ 2 h.individuals in
      let v₄ = set v₃ 3 h.concepts in
      ap counts_of_lem
      (mark_fill 0 0 h.classes (count h.roles ∷ count h.individuals ∷ count h.concepts ∷ count h.statements ∷ gs) no_counts refl
      ∙ (mark_fill 1 0 h.roles (count h.individuals ∷ count h.concepts ∷ count h.statements ∷ gs) v₁ refl
      ∙ (mark_fill 2 0 h.individuals (count h.concepts ∷ count h.statements ∷ gs) v₂ refl
      ∙ (mark_fill 3 0 h.concepts (count h.statements ∷ gs) v₃ refl
      ∙ mark_fill 4 0 h.statements gs v₄ refl))))

  -- the header is read back
  pub header_laid : (at : ℕ) → Has s at (header_bytes h) → header s at ≡ value h (at + length (header_bytes h))
  unfolding header_bytes fields
  header_laid at has =
      let m = map_of (count_places h) in
      let b = byte_laid s at m has.0 has.1 in
      let f = fields_laid count_limits 6 s no_counts (count_places h) 16 0 no_counts (at + 1) (omega arith) (omega arith) (λ j a b. refl) counts_fit has.2 in
      let q : at + suc (length (bytes_of (count_places h))) ≡ at + 1 + length (bytes_of (count_places h)) = omega arith in
      header_of s at m (at + 1) (fill 0 (count_places h) no_counts) (at + 1 + length (bytes_of (count_places h))) b counts_map f
      ∙ ap₂ (λ (x : Counts) (y : ℕ). value x y) counts_filled (sym q)
