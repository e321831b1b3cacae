-- Locality: what a reader gives depends on the bytes that it passed alone, and not on where they stand.
use Prim.Native.Nat.{ℕ, zero, suc, ◌+◌, ◌-◌, ◌*◌, ◌/◌, ◌%◌, ◌≤◌, ◌<◌}
use native.Mathlib.Omega.{arith}
use mathlib.Core.Path.{◌≡◌, refl, sym, ap, ap₂, ◌∙◌, subst, subst₂}
use mathlib.Core.Bool.{Bool, true, false, not}
use mathlib.Core.List.{List, [], ◌∷◌, ◌++◌}
use lib.ListN.{length, get_or, set}
use lib.Dec.{ltb, leb, eqb}
use borrow.Author.Tests.{le-leb}
use Rattle.book.specs.declared.header.Counts.{Counts}
use Rattle.book.specs.Table.{Start}
use Rattle.book.specs.declared.concept.Parts.{Parts}
use Rattle.book.specs.declared.concept.ConceptExpr.{ConceptExpr}
use Rattle.book.specs.Read.{pick, Read, value, refusal, onward, Parser, give, unless, several}
use Rattle.book.specs.Field.{whole, number_at_lem, byte, two_bytes_lem, four_bytes, field, fields_from, fields}
use Rattle.book.specs.Table.{concept_map_lem}
use Rattle.book.specs.Header.{counting}
use Rattle.book.specs.Concept.{concept_start_lem, no_values, concept_limits, part, parts_from, part_list, bound, concept_of_lem, concept_tail_lem, concept_rest_lem, concept}
use Rattle.book.specs.Tree.{Concept, And, Or, more, nth, part_trees, tree_of}
use Rattle.book.specs.Book.{concepts}
use Rattle.book.proofs.Parsing.{no_value, came, same_value, Goes, Forward, forward_give, forward_then, forward_test}
use Rattle.book.proofs.field.Laws.{forward_byte, forward_two, forward_four}
use Rattle.book.proofs.concept.Laws.{start_known, parts_read}

-- what stands at i, behind `at`, stands as far behind `to`
abbrev pub across : ℕ → ℕ → ℕ → ℕ
across at to i = to + (i - at)

-- the entries of s from `at` to e stand in t from `to` on
abbrev pub Agrees : List ℕ → List ℕ → ℕ → ℕ → ℕ → Type 0
Agrees s t at e to = (i : ℕ) → at ≤ i → i < e → get_or s i 0 ≡ get_or t (across at to i) 0

-- some of them
narrow : (s t : List ℕ) (at e to : ℕ) → Agrees s t at e to → (m k : ℕ) → at ≤ m → k ≤ e → Agrees s t m k (across at to m)
narrow s t at e to g m k a b i u v = let z : across at to i ≡ across m (across at to m) i = omega arith in g i (omega arith) (omega arith) ∙ ap (λ (n : ℕ). get_or t n 0) z

-- a reader goes forward, and reads the same wherever what it passed stands
pub record Local {A : Type 0} (p : Parser A) : Type 0 where
  pub forward : Forward p
  pub moves : (s t : List ℕ) (at : ℕ) (a : A) (e to : ℕ) → at ≤ length s → across at to e ≤ length t → Agrees s t at e to → p s at ≡ value a e → p t to ≡ value a (across at to e)

pub local_give : {A : Type 0} (x : A) → Local (give x)
local_give x =
    record {
      forward = forward_give x;
      moves = λ s t at a e to l m g q.
          let w = same_value x a at e q in
          let z : to ≡ across at to e = omega (arith, w.1) in
          ap₂ value w.0 z;
    }

pub local_then : {A B : Type 0} (p : Parser A) (f : A → Parser B) → Local p → ((a : A) → Local (f a)) → Local (λ s at. onward (p s at) λ a next. f a s next)
local_then {A} {B} p f lp lf =
    record {
      forward = forward_then p f lp.forward (λ a. (lf a).forward);
      moves = λ s t at b e to l m g q.
          let c = came (p s at) (λ a next. f a s next) b e q in
          let x = lp.forward s at c.0 c.1 l c.2 in
          let y = (lf c.0).forward s c.1 b e x.1 c.3 in
          let z : across c.1 (across at to c.1) e ≡ across at to e = omega (arith, x.0, y.0) in
          let p' = lp.moves s t at c.0 c.1 to l (omega (arith, y.0)) (λ i u v. g i u (omega (arith, y.0))) c.2 in
          let f' = (lf c.0).moves s t c.1 b e (across at to c.1) x.1 (omega (arith, z)) (narrow s t at e to g c.1 e (omega (arith, x.0)) (omega arith)) c.3 in
          ap (λ (r : Read A). onward r λ a next. f a t next) p' ∙ (f' ∙ ap (value b) z);
    }

pub local_test : {B : Type 0} (b : Bool) (n : ℕ) (q : Parser B) → Local q → Local (λ s at. onward (unless b n s at) λ u next. q s next)
local_test true n q l = l
local_test false n q l = record { forward = forward_test false n q l.forward; moves = λ s t at a e to k m g z. no_value n a e z }

pub local_pick : {A : Type 0} (b : Bool) (p q : Parser A) → Local p → Local q → Local (pick b p q)
local_pick true p q f g = f
local_pick false p q f g = g

pub local_several : {A : Type 0} (p : Parser A) → Local p → (n : ℕ) → Local (several p n)
unfolding several
local_several p l zero = local_give []
local_several p l (suc n) = local_then (several p n) (λ xs s at. onward (p s at) λ x next. value (xs ++ (x ∷ [])) next) (local_several p l n) (λ xs. local_then p (λ x s at. value (xs ++ (x ∷ [])) at) l (λ x. local_give (xs ++ (x ∷ []))))

-- n bytes whose number is found from them
whole_moves : (n : ℕ) (v : List ℕ → ℕ → ℕ) → ((s t : List ℕ) (at to : ℕ) → Agrees s t at (at + n) to → v s at ≡ v t to)
    → (s t : List ℕ) (at a e to : ℕ) → across at to e ≤ length t → Agrees s t at e to → whole n (v s at) s at ≡ value a e → whole n (v t to) t to ≡ value a (across at to e)
whole_moves n v same s t at a e to m g q = go (leb (at + n) (length s)) q
  where
    go : (b : Bool) → pick b (value (v s at) (at + n)) (refusal 4) ≡ value a e → whole n (v t to) t to ≡ value a (across at to e)
    go true z =
        let w = same_value (v s at) a (at + n) e z in
        let o : to + n ≡ across at to e = omega (arith, w.1) in
        let k : to + n ≤ length t = omega (arith, o) in
        let x : v t to ≡ a = sym (same s t at to (λ i u h. g i u (omega (arith, w.1)))) ∙ w.0 in
        rw (le-leb _ _ k) (ap₂ (λ (y : ℕ) (u : ℕ). value y u) x o)
    go false z = no_value 4 a e z

-- the entry k behind an offset
entry : (s t : List ℕ) (at to n k : ℕ) → k < n → Agrees s t at (at + n) to → get_or s (at + k) 0 ≡ get_or t (to + k) 0
entry s t at to n k l g = let z : across at to (at + k) ≡ to + k = omega arith in g (at + k) (omega arith) (omega arith) ∙ ap (λ (i : ℕ). get_or t i 0) z

first_entry : (s t : List ℕ) (at to n : ℕ) → 0 < n → Agrees s t at (at + n) to → get_or s at 0 ≡ get_or t to 0
first_entry s t at to n l g = let z : across at to at ≡ to = omega arith in g at (omega arith) (omega arith) ∙ ap (λ (i : ℕ). get_or t i 0) z

number_moves : (s t : List ℕ) (at to : ℕ) → Agrees s t at (at + 2) to → number_at_lem s at ≡ number_at_lem t to
number_moves s t at to g = ap₂ (λ (a : ℕ) (b : ℕ). a + 256 * b) (first_entry s t at to 2 (omega arith) g) (entry s t at to 2 1 (omega arith) g)

pub local_byte : Local byte
unfolding byte
local_byte = record { forward = forward_byte; moves = λ s t at a e to l m g q. whole_moves 1 (λ s at. get_or s at 0) (λ s t at to g. first_entry s t at to 1 (omega arith) g) s t at a e to m g q }

pub local_two : Local two_bytes_lem
unfolding two_bytes_lem
local_two = record { forward = forward_two; moves = λ s t at a e to l m g q. whole_moves 2 number_at_lem number_moves s t at a e to m g q }

pub local_four : Local four_bytes
unfolding four_bytes
local_four =
    record {
      forward = forward_four;
      moves = λ s t at a e to l m g q.
          whole_moves 4 (λ s at. get_or s at 0 + 256 * get_or s (at + 1) 0 + 65536 * (get_or s (at + 2) 0 + 256 * get_or s (at + 3) 0))
          (λ s t at to g. rw (first_entry s t at to 4 (omega arith) g, entry s t at to 4 1 (omega arith) g, entry s t at to 4 2 (omega arith) g, entry s t at to 4 3 (omega arith) g) refl)
          s t at a e to m g q;
    }

pub local_field : (bit limit absent over : ℕ) → Local (field bit limit absent over)
unfolding field
local_field bit limit absent over =
    local_pick (eqb bit 0) (give absent) _ (local_give absent)
    (local_then two_bytes_lem _ local_two λ v. local_test (not (eqb v absent)) 5 _ (local_test (ltb v limit) over (give v) (local_give v)))

local_from : (limits : List ℕ) (over n k map : ℕ) (values : List ℕ) → Local (fields_from limits over n k map values)
unfolding fields_from
local_from limits over zero k map values = local_give values
local_from limits over (suc n) k map values =
    local_then (field (map % 2) (get_or limits k 0) (get_or values k 0) over) _
    (local_field (map % 2) (get_or limits k 0) (get_or values k 0) over)
    (λ v. local_from limits over n (k + 1) (map / 2) (set values k v))

pub local_fields : (map : ℕ) (limits absent : List ℕ) (over : ℕ) → Local (fields map limits absent over)
unfolding fields
local_fields map limits absent over = local_from limits over 16 0 map absent

-- concept records
local_start : Local concept_start_lem
unfolding concept_start_lem
local_start = local_then byte _ local_byte λ k. local_test (ltb k 12) 7 _ (local_then byte _ local_byte λ m. local_test (eqb m (concept_map_lem k)) 8 _ (local_give _))

local_bound : (bit : ℕ) → Local (bound bit)
unfolding bound
local_bound bit = local_pick (eqb bit 0) (give 0) four_bytes (local_give 0) local_four

-- n parts are the same trees wherever their numbers stand
parts_move : (s t : List ℕ) (ts : List Concept) (n at e to : ℕ) → at + 2 * n ≤ e → Agrees s t at e to → part_trees s ts at n ≡ part_trees t ts to n
unfolding part_trees
parts_move s t ts zero at e to l g = refl
parts_move s t ts (suc n) at e to l g =
    let z : across at to (at + 2) ≡ to + 2 = omega arith in
    ap₂ more (ap (nth ts) (number_moves s t at to (λ i u v. g i u (omega arith)))) (rw z at (parts_move s t ts n (at + 2) e (across at to (at + 2)) (omega arith) (narrow s t at e to g (at + 2) e (omega arith) (omega arith))))

-- a part list says where its parts stand
abbrev moved : ℕ → ℕ → Parts → Parts
moved at to p = parts_from (across at to p.at) p.len

module _ (k : ℕ) (s : List ℕ) (at : ℕ) (l : at ≤ length s) where
  -- what is read of a part list that was read in s, wherever it stands in t
  record Listed (bit : ℕ) (p : Parts) (e : ℕ) : Type 0 where
    goes : Goes 0 s at e
    read : (t : List ℕ) (to : ℕ) → across at to e ≤ length t → Agrees s t at e to → part_list bit k t to ≡ value (moved at to p) (across at to e)
    parts : (t : List ℕ) (to : ℕ) → Agrees s t at e to → (ts : List Concept) → part_trees s ts p.at p.len ≡ part_trees t ts (across at to p.at) p.len

  listed : (bit : ℕ) (p : Parts) (e : ℕ) → part_list bit k s at ≡ value p e → Listed bit p e
  unfolding part_list
  listed bit p e q = go (eqb bit 0) refl q
    where
      there : (t : List ℕ) (to here : ℕ) (len : ℕ) → at ≤ here → here + 2 * len ≤ e → Agrees s t at e to → parts_from here len ≡ p → (ts : List Concept) → part_trees s ts p.at p.len ≡ part_trees t ts (across at to p.at) p.len
      there t to here len a b g o ts = subst (λ (x : Parts). part_trees s ts x.at x.len ≡ part_trees t ts (across at to x.at) x.len) o (parts_move s t ts len here e (across at to here) b (narrow s t at e to g here e a (omega arith)))

      go : (b : Bool) → eqb bit 0 ≡ b → pick {A = Parser Parts} b (λ s at. value (parts_from at 0) at) (λ s at. onward (byte s at) λ len here. onward (several (part k) len s here) λ ns next. value (parts_from here len) next) s at ≡ value p e → Listed bit p e
      go true f z =
          let o = same_value (parts_from at 0) p at e z in
          record {
            goes = (omega (arith, o.1), omega (arith, o.1));
            read = λ t to m g.
                let x : to ≡ across at to at = omega arith in
                rw f (ap₂ (λ (u v : ℕ). value (parts_from u 0) v) x x ∙ ap₂ (λ (w : Parts) (u : ℕ). value (moved at to w) (across at to u)) o.0 o.1);
            parts = λ t to g. there t to at 0 (omega arith) (omega (arith, o.1)) g o.0;
          }
      go false f z =
          let a = came (byte s at) _ p e z in
          let c = came (several (part k) a.0 s a.1) _ p e a.3 in
          let o = same_value (parts_from a.1 a.0) p c.1 e c.3 in
          let r = parts_read k s a.1 a.0 c.0 c.1 c.2 in
          let x = local_byte.forward s at a.0 a.1 l a.2 in
          let some = local_several (part k) (local_field 1 k 65536 9) a.0 in
          let y = some.forward s a.1 c.0 c.1 x.1 c.2 in
          record {
            goes = (omega (arith, x.0, y.0, o.1), omega (arith, y.1, o.1));
            read = λ t to m g.
                let first = local_byte.moves s t at a.0 a.1 to l (omega (arith, y.0, o.1)) (λ i u v. g i u (omega (arith, y.0, o.1))) a.2 in
                let w : across a.1 (across at to a.1) c.1 ≡ across at to c.1 = omega (arith, x.0, y.0) in
                let then = some.moves s t a.1 c.0 c.1 (across at to a.1) x.1 (omega (arith, w, o.1)) (narrow s t at e to g a.1 c.1 (omega (arith, x.0)) (omega (arith, o.1))) c.2 in
                rw (f, first, then) (ap (value (parts_from (across at to a.1) a.0)) w ∙ ap₂ (λ (v : Parts) (u : ℕ). value (moved at to v) (across at to u)) o.0 o.1);
            parts = λ t to g. there t to a.1 a.0 (omega (arith, x.0)) (omega (arith, r.0, o.1)) g o.0;
          }

-- the table's kinds, one by one
module _ (s t : List ℕ) (ts : List Concept) (v : List ℕ) (p q : Parts) (n : ℕ) (same : part_trees s ts p.at p.len ≡ part_trees t ts q.at q.len) where
  kinds_same : (kind : ℕ) → tree_of s ts (concept_of_lem kind v p n) ≡ tree_of t ts (concept_of_lem kind v q n)
  kinds_same zero = refl
  kinds_same (suc zero) = refl
  kinds_same (suc (suc zero)) = refl
  kinds_same (suc (suc (suc zero))) = refl
  kinds_same (suc (suc (suc (suc zero)))) = refl
  kinds_same (suc (suc (suc (suc (suc zero))))) = refl
  kinds_same (suc (suc (suc (suc (suc (suc zero)))))) = ap And same
  kinds_same (suc (suc (suc (suc (suc (suc (suc zero))))))) = ap Or same
  kinds_same (suc (suc (suc (suc (suc (suc (suc (suc zero)))))))) = refl
  kinds_same (suc (suc (suc (suc (suc (suc (suc (suc (suc zero))))))))) = refl
  kinds_same (suc (suc (suc (suc (suc (suc (suc (suc (suc (suc zero)))))))))) = refl
  kinds_same (suc (suc (suc (suc (suc (suc (suc (suc (suc (suc (suc m))))))))))) = refl

-- a record that is read part by part
concept_of_law : (h : Counts) (k : ℕ) (t : List ℕ) (at : ℕ) (st : Start) (a : ℕ) (v : List ℕ) (b : ℕ) (p : Parts) (c n e : ℕ)
    → concept_start_lem t at ≡ value st a → fields (st.map % 16) (concept_limits h k) no_values 9 t a ≡ value v b → part_list (st.map / 16 % 2) k t b ≡ value p c → bound (st.map / 32 % 2) t c ≡ value n e
    → concept h k t at ≡ value (concept_of_lem st.kind v p n) e
unfolding concept concept_rest_lem concept_tail_lem
concept_of_law h k t at st a v b p c n e x y z w = simp (x, y, z, w)

module _ (h : Counts) (k : ℕ) (s : List ℕ) (at : ℕ) (l : at ≤ length s) where
  -- what is read of a concept record that was read in s, wherever it stands in t: another that is the same tree
  record Carried (t : List ℕ) (to : ℕ) (x : ConceptExpr) (e : ℕ) : Type 0 where
    there : ConceptExpr
    read : concept h k t to ≡ value there (across at to e)
    tree : (ts : List Concept) → tree_of s ts x ≡ tree_of t ts there

  record Told (x : ConceptExpr) (e : ℕ) : Type 0 where
    goes : Goes 2 s at e
    carried : (t : List ℕ) (to : ℕ) → across at to e ≤ length t → Agrees s t at e to → Carried t to x e

  -- the parts of the record one after the other: to₁, to₂ and to₃ are where those behind the first stand in t
  told_of : (st : Start) (a : ℕ) (v : List ℕ) (b : ℕ) (p : Parts) (c n e : ℕ)
      → concept_start_lem s at ≡ value st a → fields (st.map % 16) (concept_limits h k) no_values 9 s a ≡ value v b → part_list (st.map / 16 % 2) k s b ≡ value p c → bound (st.map / 32 % 2) s c ≡ value n e
      → Told (concept_of_lem st.kind v p n) e
  told_of st a v b p c n e x y z w =
      let some = local_fields (st.map % 16) (concept_limits h k) no_values 9 in
      let last = local_bound (st.map / 32 % 2) in
      let f₁ = local_start.forward s at st a l x in
      let f₂ = some.forward s a v b f₁.1 y in
      let list = listed k s b f₂.1 (st.map / 16 % 2) p c z in
      let f₃ = list.goes in
      let f₄ = last.forward s c n e f₃.1 w in
      record {
        goes = (omega (arith, (start_known s at st a x).goes.0, f₂.0, f₃.0, f₄.0), f₄.1);
        carried = λ t to m g.
            let to₁ = across at to a in
            let to₂ = across a to₁ b in
            let to₃ = across b to₂ c in
            let end : across c to₃ e ≡ across at to e = omega (arith, f₁.0, f₂.0, f₃.0, f₄.0) in
            let g₁ = narrow s t at e to g a e (omega (arith, f₁.0)) (omega arith) in
            let g₂ = narrow s t a e to₁ g₁ b e (omega (arith, f₂.0)) (omega arith) in
            let g₃ = narrow s t b e to₂ g₂ c e (omega (arith, f₃.0)) (omega arith) in
            let here : Agrees s t b c to₂ = (λ i u o. g₂ i u (omega (arith, f₄.0))) in
            let m₁ = local_start.moves s t at st a to l (omega (arith, f₂.0, f₃.0, f₄.0)) (λ i u o. g i u (omega (arith, f₂.0, f₃.0, f₄.0))) x in
            let m₂ = some.moves s t a v b to₁ f₁.1 (omega (arith, f₁.0, f₃.0, f₄.0)) (λ i u o. g₁ i u (omega (arith, f₃.0, f₄.0))) y in
            let m₃ = list.read t to₂ (omega (arith, f₁.0, f₂.0, f₄.0)) here in
            let m₄ = last.moves s t c n e to₃ f₃.1 (omega (arith, end)) g₃ w in
            record {
              there = concept_of_lem st.kind v (moved b to₂ p) n;
              read = concept_of_law h k t to st to₁ v to₂ (moved b to₂ p) to₃ n (across c to₃ e) m₁ m₂ m₃ m₄ ∙ ap (value (concept_of_lem st.kind v (moved b to₂ p) n)) end;
              tree = λ ts. kinds_same s t ts v p (moved b to₂ p) n (list.parts t to₂ here ts) st.kind;
            };
      }

  told : (x : ConceptExpr) (e : ℕ) → concept h k s at ≡ value x e → Told x e
  unfolding concept concept_rest_lem concept_tail_lem
  told x e q =
      let a = came (concept_start_lem s at) _ x e q in
      let b = came (fields (a.0.map % 16) (concept_limits h k) no_values 9 s a.1) _ x e a.3 in
      let c = came (part_list (a.0.map / 16 % 2) k s b.1) _ x e b.3 in
      let n = came (bound (a.0.map / 32 % 2) s c.1) _ x e c.3 in
      let o = same_value (concept_of_lem a.0.kind b.0 c.0 n.0) x n.1 e n.3 in
      subst₂ Told o.0 o.1 (told_of a.0 a.1 b.0 b.1 c.0 c.1 n.0 n.1 a.2 b.2 c.2 n.2)

-- the concepts of a book
module _ (h : Counts) where
  pub local_concepts : (n : ℕ) → Local (concepts h n)
  unfolding concepts
  local_concepts zero = local_give []
  local_concepts (suc n) = step (local_concepts n)
    where
      step : Local (concepts h n) → Local (concepts h (suc n))
      step ih =
          record {
            forward = λ s at a e l q.
                let b = came (concepts h n s at) _ a e q in
                let c = came (concept h n s b.1) _ a e b.3 in
                let f = ih.forward s at b.0 b.1 l b.2 in
                let g = (told h n s b.1 f.1 c.0 c.1 c.2).goes in
                let o = same_value (b.0 ++ (tree_of s b.0 c.0 ∷ [])) a c.1 e c.3 in
                (omega (arith, f.0, g.0, o.1), omega (arith, g.1, o.1));
            moves = λ s t at a e to l m g q.
                let b = came (concepts h n s at) _ a e q in
                let c = came (concept h n s b.1) _ a e b.3 in
                let f = ih.forward s at b.0 b.1 l b.2 in
                let k = told h n s b.1 f.1 c.0 c.1 c.2 in
                let o = same_value (b.0 ++ (tree_of s b.0 c.0 ∷ [])) a c.1 e c.3 in
                let z : across b.1 (across at to b.1) c.1 ≡ across at to e = omega (arith, f.0, k.goes.0, o.1) in
                let first = ih.moves s t at b.0 b.1 to l (omega (arith, k.goes.0, o.1)) (λ i u v. g i u (omega (arith, k.goes.0, o.1))) b.2 in
                let then = k.carried t (across at to b.1) (omega (arith, z)) (narrow s t at e to g b.1 c.1 (omega (arith, f.0)) (omega (arith, o.1))) in
                rw (first, then.read, ← then.tree b.0) (ap₂ value o.0 z);
          }

  -- each takes two bytes at least
  pub concepts_long : (n : ℕ) (s : List ℕ) (at : ℕ) (ts : List Concept) (e : ℕ) → at ≤ length s → concepts h n s at ≡ value ts e → Goes (2 * n) s at e
  unfolding concepts
  concepts_long zero s at ts e l q = let o = same_value [] ts at e q in (omega (arith, o.1), omega (arith, o.1))
  concepts_long (suc n) s at ts e l q = step (concepts_long n)
    where
      step : ((s : List ℕ) (at : ℕ) (ts : List Concept) (e : ℕ) → at ≤ length s → concepts h n s at ≡ value ts e → Goes (2 * n) s at e) → Goes (2 * suc n) s at e
      step ih =
          let b = came (concepts h n s at) _ ts e q in
          let c = came (concept h n s b.1) _ ts e b.3 in
          let f = ih s at b.0 b.1 l b.2 in
          let g = (told h n s b.1 f.1 c.0 c.1 c.2).goes in
          let o = same_value (b.0 ++ (tree_of s b.0 c.0 ∷ [])) ts c.1 e c.3 in
          (omega (arith, f.0, g.0, o.1), omega (arith, g.1, o.1))

  pub forward_concepts : (n : ℕ) → Forward (concepts h n)
  forward_concepts n = (local_concepts n).forward

  -- nothing of the statement count
  pub concepts_same : (n m : ℕ) (s : List ℕ) (at : ℕ) → concepts (counting h m) n s at ≡ concepts h n s at
  unfolding concepts concept concept_rest_lem
  concepts_same zero m s at = refl
  concepts_same (suc n) m s at = rw (concepts_same n m s at) refl
