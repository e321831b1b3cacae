-- The record of an Atomic as bytes.
use Prim.Native.Nat.{ℕ, zero, suc, ◌+◌, ◌/◌, ◌%◌, ◌≤◌, ◌<◌}
use native.Mathlib.Omega.{arith}
use mathlib.Core.Path.{◌≡◌, refl, sym, ap, ◌∙◌, subst}
use mathlib.Core.List.{List, [], ◌∷◌}
use lib.ListN.{length, get_or, set}
use lib.Dec.{ltb, eqb, lit≤}
use borrow.Author.Tests.{eqb-true}
use Rattle.book.specs.declared.header.Counts.{Counts}
use Rattle.book.specs.Table.{Start}
use Rattle.book.specs.Read.{value}
use Rattle.book.specs.Table.{concept_map_lem}
use Rattle.book.specs.declared.concept.Parts.{Parts}
use Rattle.book.specs.declared.concept.ConceptExpr.TheVariants.{Atomic}
use Rattle.book.specs.Concept.{no_values, concept_start_lem, concept_limits, parts_from, part_list, bound, concept_of_lem, concept_tail_lem, concept_rest_lem, concept}
use Rattle.book.specs.Field.{byte, fields_from, fields}
use Rattle.book.specs.Bytes.{Has, two_of, put, bytes_of, places_of}
use Rattle.book.proofs.Parsing.{came, held, same_value}
use Rattle.book.proofs.Bytes.Entries.{byte_laid, fields_laid, Laid, laid_then, byte_read, fields_read}

values_room : 0 + 16 ≤ length no_values
values_room = omega arith

-- the record of an Atomic, laid out and read
concept_of_law : (h : Counts) (k : ℕ) (s : List ℕ) (at a b : ℕ) (v : List ℕ) (e : ℕ) → byte s at ≡ value 2 a → byte s a ≡ value 1 b → fields 1 (concept_limits h k) no_values 9 s b ≡ value v e → concept h k s at ≡ value (Atomic (get_or v 0 0)) e
unfolding concept concept_start_lem concept_rest_lem concept_tail_lem part_list bound
concept_of_law h k s at a b v e p q f = simp (p, q, f)

pub atomic_laid : (h : Counts) (k : ℕ) (s : List ℕ) (at c : ℕ) → c < h.classes → c < 65536 → Has s at (2 ∷ 1 ∷ two_of c) → concept h k s at ≡ value (Atomic c) (at + 1 + 1 + 2)
unfolding fields
atomic_laid h k s at c l m has =
    let f = fields_laid (concept_limits h k) 9 s no_values (put c ∷ []) 16 0 no_values (at + 1 + 1) (lit≤ tt) (lit≤ tt) (λ j a b. refl) ((l, omega arith), tt) has.2.2 in
    concept_of_law h k s at (at + 1) (at + 1 + 1) (set no_values 0 c) (at + 1 + 1 + 2) (byte_laid s at 2 has.0 has.1) (byte_laid s (at + 1) 1 has.2.0 has.2.1) f

-- no other kind is an Atomic
atomic_kind : (kind : ℕ) (v : List ℕ) (p : Parts) (n c : ℕ) → concept_of_lem kind v p n ≡ Atomic c → (kind ≡ 2) × (get_or v 0 0 ≡ c)
atomic_kind zero v p n c e = absurd (let o : ◌≡◌ {A = ℕ} 0 1 = cc in omega arith)
atomic_kind (suc zero) v p n c e = absurd (let o : ◌≡◌ {A = ℕ} 0 1 = cc in omega arith)
atomic_kind (suc (suc zero)) v p n c e = (refl, cc)
atomic_kind (suc (suc (suc zero))) v p n c e = absurd (let o : ◌≡◌ {A = ℕ} 0 1 = cc in omega arith)
atomic_kind (suc (suc (suc (suc zero)))) v p n c e = absurd (let o : ◌≡◌ {A = ℕ} 0 1 = cc in omega arith)
atomic_kind (suc (suc (suc (suc (suc zero))))) v p n c e = absurd (let o : ◌≡◌ {A = ℕ} 0 1 = cc in omega arith)
atomic_kind (suc (suc (suc (suc (suc (suc zero)))))) v p n c e = absurd (let o : ◌≡◌ {A = ℕ} 0 1 = cc in omega arith)
atomic_kind (suc (suc (suc (suc (suc (suc (suc zero))))))) v p n c e = absurd (let o : ◌≡◌ {A = ℕ} 0 1 = cc in omega arith)
atomic_kind (suc (suc (suc (suc (suc (suc (suc (suc zero)))))))) v p n c e = absurd (let o : ◌≡◌ {A = ℕ} 0 1 = cc in omega arith)
atomic_kind (suc (suc (suc (suc (suc (suc (suc (suc (suc zero))))))))) v p n c e = absurd (let o : ◌≡◌ {A = ℕ} 0 1 = cc in omega arith)
atomic_kind (suc (suc (suc (suc (suc (suc (suc (suc (suc (suc zero)))))))))) v p n c e = absurd (let o : ◌≡◌ {A = ℕ} 0 1 = cc in omega arith)
atomic_kind (suc (suc (suc (suc (suc (suc (suc (suc (suc (suc (suc k))))))))))) v p n c e = absurd (let o : ◌≡◌ {A = ℕ} 0 1 = cc in omega arith)

rest_none : (k : ℕ) (s : List ℕ) (f : ℕ) (p : Parts) (g n u : ℕ) → part_list 0 k s f ≡ value p g → bound 0 s g ≡ value n u → f ≡ u
unfolding part_list bound
rest_none k s f p g n u q r = (same_value (parts_from f 0) p f g q).1 ∙ (same_value 0 n g u r).1

module _ (h : Counts) (k : ℕ) (s : List ℕ) (at c e : ℕ) where
  pub atomic_read : concept h k s at ≡ value (Atomic c) e → Laid s at e (2 ∷ 1 ∷ two_of c)
  unfolding concept concept_start_lem concept_rest_lem concept_tail_lem fields
  atomic_read t =
      let p = came (concept_start_lem s at) _ (Atomic c) e t in
      let a = came (byte s at) _ p.0 p.1 p.2 in
      let b = held (ltb a.0 12) 7 s a.1 _ p.0 p.1 a.3 in
      let d = came (byte s a.1) _ p.0 p.1 b.1 in
      let m = held (eqb d.0 (concept_map_lem a.0)) 8 s d.1 _ p.0 p.1 d.3 in
      let y : Start = record { kind = a.0; map = d.0 } in
      let o = same_value y p.0 d.1 p.1 m.1 in
      let f = came (fields_from (concept_limits h k) 9 16 0 (p.0.map % 16) no_values s p.1) _ (Atomic c) e p.3 in
      let g = came (part_list (p.0.map / 16 % 2) k s f.1) _ (Atomic c) e f.3 in
      let u = came (bound (p.0.map / 32 % 2) s g.1) _ (Atomic c) e g.3 in
      let z = same_value (concept_of_lem p.0.kind f.0 g.0 u.0) (Atomic c) u.1 e u.3 in
      let kind = atomic_kind p.0.kind f.0 g.0 u.0 c z.0 in
      let k₁ : a.0 ≡ 2 = ap (λ (w : Start). w.kind) o.0 ∙ kind.0 in
      let k₂ : d.0 ≡ 1 = eqb-true d.0 (concept_map_lem a.0) m.0 ∙ ap concept_map_lem k₁ in
      let k₃ : p.0.map ≡ 1 = ap (λ (w : Start). w.map) (sym o.0) ∙ k₂ in
      let l₁ = byte_read s at a.0 a.1 a.2 in
      let l₂ = byte_read s a.1 d.0 d.1 d.2 in
      let l₃ = fields_read (concept_limits h k) 9 s f.0 f.1 16 0 (p.0.map % 16) no_values p.1 values_room f.2 in
      done a.0 a.1 d.0 d.1 p.1 p.0.map f.0 f.1 g.0 g.1 u.0 u.1 k₁ k₂ k₃ o.1 kind.1 l₁ l₂ l₃ g.2 u.2 z.1
    where
      done : (n₁ a n₂ b b' m : ℕ) (v : List ℕ) (f : ℕ) (p : Parts) (g n u : ℕ) → n₁ ≡ 2 → n₂ ≡ 1 → m ≡ 1 → b ≡ b' → get_or v 0 0 ≡ c → Laid s at a (n₁ ∷ []) → Laid s a b (n₂ ∷ []) → Laid s b' f (bytes_of (places_of 16 0 (m % 16) v)) → part_list (m / 16 % 2) k s f ≡ value p g → bound (m / 32 % 2) s g ≡ value n u → u ≡ e → Laid s at e (2 ∷ 1 ∷ two_of c)
      done n₁ a n₂ b b' m v f p g n u q₁ q₂ q₃ q₄ q₅ l₁ l₂ l₃ r₁ r₂ q₆ =
          let l₃' : Laid s b f (two_of c) = rw (← q₅) (subst (λ (x : ℕ). Laid s b f (bytes_of (places_of 16 0 (x % 16) v))) q₃ (rw q₄ l₃)) in
          let x : Laid s at f (2 ∷ 1 ∷ two_of c) = laid_then (2 ∷ 1 ∷ []) (two_of c) (laid_then (2 ∷ []) (1 ∷ []) (rw q₁ at l₁) (rw q₂ at l₂)) l₃' in
          let y = rest_none k s f p g n u (subst (λ (z : ℕ). part_list (z / 16 % 2) k s f ≡ value p g) q₃ r₁) (subst (λ (z : ℕ). bound (z / 32 % 2) s g ≡ value n u) q₃ r₂) in
          subst (λ (z : ℕ). Laid s at z (2 ∷ 1 ∷ two_of c)) (y ∙ q₆) x
