-- The leaves of concepts, collected from parts to wholes.
use Prim.Native.Nat.{ℕ, zero, suc, ◌+◌, ◌-◌, ◌*◌, ◌/◌, ◌%◌, ◌<◌, ◌≤◌}
use native.Mathlib.Decide.{ℕ_discrete, dec_lt}
use native.Mathlib.Omega.{arith}
use mathlib.Core.Path.{◌≡◌, refl, ap, ap₂, sym, ◌∙◌, subst}
use mathlib.Core.Bool.{Bool, true, false, ◌&&◌, ◌||◌, or-false}
use mathlib.Core.List.{List, [], ◌∷◌}
use mathlib.Core.Logic.{⊎_elim}
use lib.ListN.{length, get_or, set}
use lib.Seq.{get_or-set_same, get_or-set_other}
use lib.Dec.{eqb, ltb}
use borrow.Author.Tests.{eqb-true, eq-eqb, ne_eqb, lt-ltb, le-ltb}
use mir.Val.{Fits}
use mir.Syntax.{w64}
use Rattle.book.specs.Field.{number_at_lem}
use Rattle.book.specs.Read.{pick}
use Rattle.book.specs.Role.{role_of_lem, field_of_lem}
use Rattle.book.proofs.Bytes.Stated.{field_of_role}
use Rattle.book.specs.Tree.{Concept, Concepts, Top, Bot, Atomic, Nominal, SelfRestriction, Not, And, Or, Some, All, Min, Max}
use Rattle.book.specs.Book.{Book}
use Rattle.book.specs.declared.header.Counts.{Counts}
use Rattle.book.specs.declared.concept.Parts.{Parts}
use Rattle.book.specs.declared.role.Role.{Role}
use Rattle.rows.specs.Row.{at, Put, Gathered}
use Rattle.rules.specs.Rule.{any, some}
use Rattle.rules.specs.Brought.{concept, Value, Shape, atomic, nominal, conjunction, existential, other, shape, leaves, leaves_in, class_of, filler_value, value_in as shapeValue}
use Rattle.rules.proofs.Tests.{false_true, both_ways, not-true, or_cases, or_left, or_right, any_some, some_any}
use Rattle.tables.specs.Leaf.{kind_in, is_and_lem, LeafOf, Leaves}
use Rattle.tables.specs.Open.{book_of, Open}
use Rattle.tables.specs.Parts.{parts_in, part_in}
use Rattle.tables.proofs.Tables.{some_append}
use Rattle.tables.proofs.concept.Records.{part_lower, trees_after, trees_more, trees_none, and_tree}
use Rattle.tables.proofs.Members.{any_same}
use Rattle.derivation.specs.Tables.{no_slot, value_slot, shape_slot, slot_tree, slot_of, leaf_has_lem}
use Rattle.derivation.specs.Collected.{stands_for, Slotted, Wide, Parted, Deep}

-- ---- rows of 4,096 bits

pub wide_none : (c : List ℕ) (d p : ℕ) → Wide c d p 0 c
wide_none c d p = record { len = refl; done = λ j l m. absurd (omega arith); rest = λ j l m. refl; other = λ j q. refl }

pub wide_more : {c n o : List ℕ} {d p i : ℕ} → (d ≡ p → ⊥) → i < 8 → Wide c d p i n → Gathered n (d * 8 + i) n (p * 8 + i) o → Wide c d p (i + 1) o
wide_more {c} {n} {o} {d} {p} {i} differ l w g = record {
  len = g.len ∙ w.len;
  done = λ j a b. fill j a b (dec_lt j (i * 512));
  rest = λ j a b. g.other (d * 4096 + j) (λ e. omega arith) ∙ w.rest j (omega arith) b;
  other = λ j q. g.other j (λ e. q (omega arith)) ∙ w.other j q;
}
  where
    fill : (j : ℕ) → j < (i + 1) * 512 → j < 4096 → Dec (j < i * 512) → at o (d * 4096 + j) ≡ (at c (d * 4096 + j) || at c (p * 4096 + j))
    fill j a b (yes m) = g.other (d * 4096 + j) (λ e. omega arith) ∙ w.done j m b
    fill j a b (no m) =
        let x : (d * 8 + i) * 512 + (j - i * 512) ≡ d * 4096 + j = omega arith in
        let y : (p * 8 + i) * 512 + (j - i * 512) ≡ p * 4096 + j = omega arith in
        ap (at o) (sym x) ∙ (g.all (j - i * 512) (omega arith) ∙ ap₂ ◌||◌ (ap (at n) x ∙ w.rest j (omega arith) b) (ap (at n) y ∙ w.other (p * 4096 + j) (λ e. differ (omega arith))))

-- ---- parts

any_next : (i : ℕ) (f : ℕ → Bool) → any (i + 1) f ≡ (f i || any i f)
any_next i f = let z : i + 1 ≡ suc i = omega arith in ap (λ (x : ℕ). any x f) z

or_swap : (a b c : Bool) → ((a || b) || c) ≡ (a || (c || b))
or_swap true b c = refl
or_swap false true true = refl
or_swap false true false = refl
or_swap false false true = refl
or_swap false false false = refl

pub parted_none : (s : List ℕ) (p : Parts) (d : ℕ) (c : List ℕ) → Parted s p d 0 c c
parted_none s p d c = record { len = refl; all = λ j l. sym (or-false (at c (d * 4096 + j))); other = λ j q. refl }

pub parted_more : {s : List ℕ} {p : Parts} {d i q : ℕ} {c n o : List ℕ} → q ≡ number_at_lem s (p.at + 2 * i) → q < d → Parted s p d i c n → Wide n d q 8 o → Parted s p d (i + 1) c o
parted_more {s} {p} {d} {i} {q} {c} {n} {o} e l w g = record {
  len = g.len ∙ w.len;
  all = λ j m.
      g.done j (omega arith) m
      ∙ (ap₂ ◌||◌ (w.all j m) (w.other (q * 4096 + j) (λ u. omega arith) ∙ ap (λ (x : ℕ). at c (x * 4096 + j)) e)
      ∙ (or_swap (at c (d * 4096 + j)) (any i (λ y. at c (number_at_lem s (p.at + 2 * y) * 4096 + j))) (at c (number_at_lem s (p.at + 2 * i) * 4096 + j))
      ∙ ap (λ (x : Bool). at c (d * 4096 + j) || x) (sym (any_next i (λ y. at c (number_at_lem s (p.at + 2 * y) * 4096 + j))))));
  other = λ j u. g.other j u ∙ w.other j u;
}

pub parted_all : {s : List ℕ} {p : Parts} {d i : ℕ} {c e : List ℕ} (q : Parts) → p ≡ q → i ≤ p.len → p.len ≤ i → Parted s p d i c e → Parted s q d q.len c e
parted_all {s} {p} {d} {i} {c} {e} q g a b w = let z : i ≡ p.len = omega arith in subst (λ (y : Parts). Parted s y d y.len c e) g (subst (λ (y : ℕ). Parted s p d y c e) z w)

-- ---- leaves of trees

own_leaf : (e : Concept) → is_and_lem e ≡ false → leaves e ≡ e ∷ []
own_leaf Top q = refl
own_leaf Bot q = refl
own_leaf (Atomic c) q = refl
own_leaf (Nominal b) q = refl
own_leaf (SelfRestriction r) q = refl
own_leaf (Not e) q = refl
own_leaf (And es) q = false_true (sym q)
own_leaf (Or es) q = refl
own_leaf (Some r e) q = refl
own_leaf (All r e) q = refl
own_leaf (Min n r e) q = refl
own_leaf (Max n r e) q = refl

module _ (s : List ℕ) (f : Concept → Bool) where
  -- whether a leaf of concept k passes the test
  abbrev passes : ℕ → Bool
  passes k = some (leaves (concept (book_of s) k)) f

  abbrev passes_after : Parts → ℕ → Bool
  passes_after p i = some (leaves_in (trees_after s p i)) f

  after_more : (p : Parts) (i : ℕ) → i < p.len → passes_after p i ≡ (passes (number_at_lem s (p.at + 2 * i)) || passes_after p (i + 1))
  after_more p i l = ap (λ (t : Concepts). some (leaves_in t) f) (trees_more s p i l) ∙ some_append (leaves (concept (book_of s) (number_at_lem s (p.at + 2 * i)))) (leaves_in (trees_after s p (i + 1))) f

  -- from part i on, n of them
  after_any : (p : Parts) (n i : ℕ) → i + n ≡ p.len → passes_after p i ≡ true → (y : ℕ) × (y < p.len) × (passes (number_at_lem s (p.at + 2 * y)) ≡ true)
  after_any p zero i l e = false_true (sym (ap (λ (t : Concepts). some (leaves_in t) f) (trees_none s p i (omega arith))) ∙ e)
  after_any p (suc n) i l e =
      ⊎_elim (λ z. (i, omega arith, z)) (λ z. after_any p n (i + 1) (omega arith) z)
      (or_cases (passes (number_at_lem s (p.at + 2 * i))) (passes_after p (i + 1)) (sym (after_more p i (omega arith)) ∙ e))

  any_after : (p : Parts) (n i y : ℕ) → i + n ≡ p.len → i ≤ y → y < p.len → passes (number_at_lem s (p.at + 2 * y)) ≡ true → passes_after p i ≡ true
  any_after p zero i y l a b e = absurd (omega arith)
  any_after p (suc n) i y l a b e = after_more p i (omega arith) ∙ go (ℕ_discrete i y) (λ q. any_after p n (i + 1) y (omega arith) q b e)
    where
      go : Dec (i ≡ y) → (i + 1 ≤ y → passes_after p (i + 1) ≡ true) → (passes (number_at_lem s (p.at + 2 * i)) || passes_after p (i + 1)) ≡ true
      go (yes q) r = or_left _ (passes_after p (i + 1)) (subst (λ (x : ℕ). passes (number_at_lem s (p.at + 2 * x)) ≡ true) (sym q) e)
      go (no q) r = or_right (passes (number_at_lem s (p.at + 2 * i))) _ (r (omega arith))

  -- a leaf of an And is one of a part
  parts_pass : (p : Parts) → any p.len (λ y. passes (number_at_lem s (p.at + 2 * y))) ≡ passes_after p 0
  parts_pass p = both_ways _ _
      (λ e. let w = any_some p.len (λ y. passes (number_at_lem s (p.at + 2 * y))) e in any_after p p.len 0 w.0 (omega arith) (omega arith) w.1 w.2)
      (λ e. let w = after_any p p.len 0 (omega arith) e in some_any p.len (λ y. passes (number_at_lem s (p.at + 2 * y))) w.0 w.1 w.2)

module _ {s : List ℕ} {h : Counts} {O : List ℕ} (o : Open s h O) (f : Concept → Bool) where
  and_passes : (k : ℕ) → k < h.concepts → is_and_lem (concept (book_of s) k) ≡ true → any (parts_in s h k).len (λ y. passes s f (number_at_lem s ((parts_in s h k).at + 2 * y))) ≡ passes s f k
  and_passes k l q = parts_pass s f (parts_in s h k) ∙ ap (λ (x : Concept). some (leaves x) f) (sym (and_tree o k l q))

  part_below : (k : ℕ) → k < h.concepts → (y : ℕ) → y < (parts_in s h k).len → number_at_lem s ((parts_in s h k).at + 2 * y) < k
  unfolding part_in
  part_below k l y m = part_lower o k l y m

  -- a leaf is a concept that is no And
  leaf_concept_lem : (n k : ℕ) → k < n → k < h.concepts → passes s f k ≡ true → (j : ℕ) × (j < h.concepts) × (f (concept (book_of s) j) ≡ true)
  leaf_concept_lem zero k m l e = absurd (omega arith)
  leaf_concept_lem (suc n) k m l e = go (is_and_lem (concept (book_of s) k)) refl (λ x a b c. leaf_concept_lem n x a b c)
    where
      go : (b : Bool) → is_and_lem (concept (book_of s) k) ≡ b → ((x : ℕ) → x < n → x < h.concepts → passes s f x ≡ true → (j : ℕ) × (j < h.concepts) × (f (concept (book_of s) j) ≡ true)) → (j : ℕ) × (j < h.concepts) × (f (concept (book_of s) j) ≡ true)
      go true q lower =
          let w = any_some (parts_in s h k).len (λ y. passes s f (number_at_lem s ((parts_in s h k).at + 2 * y))) (and_passes k l q ∙ e) in
          let b = part_below k l w.0 w.1 in
          lower (number_at_lem s ((parts_in s h k).at + 2 * w.0)) (omega arith) (omega arith) w.2
      go false q lower = ⊎_elim (λ z. (k, l, z)) (λ z. false_true z) (or_cases (f (concept (book_of s) k)) false (sym (ap (λ (x : List Concept). some x f) (own_leaf (concept (book_of s) k) q)) ∙ e))

-- ---- the slot of a leaf as a number and as a tree

no_pair : {A B : Type 0} {x : A} → x ∷ [] ≡ [] → B
no_pair e = absurd (let z : ◌≡◌ {A = ℕ} 0 1 = cc in omega arith)

same_head : {A : Type 0} {x y : A} → x ∷ [] ≡ y ∷ [] → x ≡ y
same_head e = cc

abbrev as_value : Role → ℕ → Value
as_value r b = record { role = r; to = b }

value_number : (x f i : ℕ) → f ≡ x % 1048576 / 512 → i ≡ x % 512 → pick (ltb f 128 && ltb i 512) (f * 512 + i) no_slot ≡ pick (ltb (x % 1048576) 65536) (x % 1048576) no_slot
value_number x f i e q = go (dec_lt (x % 1048576) 65536)
  where
    go : Dec (x % 1048576 < 65536) → pick (ltb f 128 && ltb i 512) (f * 512 + i) no_slot ≡ pick (ltb (x % 1048576) 65536) (x % 1048576) no_slot
    go (yes l) = let z : f * 512 + i ≡ x % 1048576 = omega arith in rw (lt-ltb f 128 (omega arith), lt-ltb i 512 (omega arith), lt-ltb (x % 1048576) 65536 l, z) refl
    go (no l) = rw (le-ltb f 128 (omega arith), le-ltb (x % 1048576) 65536 (omega arith)) refl

pub leaf_slot : {h : Counts} {e : Concept} {x : ℕ} → LeafOf h e x → slot_tree e ≡ slot_of x
unfolding slot_of
leaf_slot {h} {e} {x} w = kinds (eqb (kind_in x) 1) (eqb (kind_in x) 4) (shape e) w.classes w.values
  where
    number : (a b : Bool) → ℕ
    number a b = pick a (pick (ltb (x % 1048576) 256) (65536 + x % 1048576) no_slot) (pick b (pick (ltb (x % 1048576) 65536) (x % 1048576) no_slot) no_slot)

    fillers : (r : Role) (y : Shape) (b : Bool) → filler_value r y ≡ pick b (as_value (role_of_lem (x % 1048576 / 512)) (x % 512) ∷ []) [] → value_slot r y ≡ pick b (pick (ltb (x % 1048576) 65536) (x % 1048576) no_slot) no_slot
    fillers r (nominal i) true q =
        let z : as_value r i ≡ as_value (role_of_lem (x % 1048576 / 512)) (x % 512) = same_head q in
        value_number x (field_of_lem r) i (ap (λ (v : Value). field_of_lem v.role) z ∙ field_of_role (x % 1048576 / 512)) (ap (λ (v : Value). v.to) z)
    fillers r (nominal i) false q = no_pair q
    fillers r (atomic c) true q = no_pair (sym q)
    fillers r (atomic c) false q = refl
    fillers r (conjunction es) true q = no_pair (sym q)
    fillers r (conjunction es) false q = refl
    fillers r (existential s f) true q = no_pair (sym q)
    fillers r (existential s f) false q = refl
    fillers r other true q = no_pair (sym q)
    fillers r other false q = refl

    kinds : (a b : Bool) (y : Shape) → class_of y ≡ pick a (x % 1048576 ∷ []) [] → shapeValue y ≡ pick b (as_value (role_of_lem (x % 1048576 / 512)) (x % 512) ∷ []) [] → shape_slot y ≡ number a b
    kinds true b (atomic c) p q = let z : c ≡ x % 1048576 = same_head p in ap (λ (i : ℕ). pick (ltb i 256) (65536 + i) no_slot) z
    kinds false b (atomic c) p q = no_pair p
    kinds true b (nominal i) p q = no_pair (sym p)
    kinds false true (nominal i) p q = no_pair (sym q)
    kinds false false (nominal i) p q = refl
    kinds true b (conjunction es) p q = no_pair (sym p)
    kinds false true (conjunction es) p q = no_pair (sym q)
    kinds false false (conjunction es) p q = refl
    kinds true b (existential r f) p q = no_pair (sym p)
    kinds false b (existential r f) p q = fillers r (shape f) b q
    kinds true b other p q = no_pair (sym p)
    kinds false true other p q = no_pair (sym q)
    kinds false false other p q = refl

-- ---- slots

pub slotted_none : {L S : List ℕ} → Slotted 0 L S
slotted_none = record { low = λ k l. absurd (omega arith); same = λ k l. absurd (omega arith) }

pub slotted_more : {L S : List ℕ} {k y : ℕ} → y ≡ slot_of (get_or L k 0) → y < length S → Slotted k L S → Slotted (k + 1) L (set S y k)
slotted_more {L} {S} {k} {y} e l w = record { low = λ j m. below j m (ℕ_discrete (slot_of (get_or L j 0)) y) (ℕ_discrete j k); same = λ j m. slot j m (ℕ_discrete (slot_of (get_or L j 0)) y) (ℕ_discrete j k) }
  where
    hit : (j : ℕ) → slot_of (get_or L j 0) ≡ y → stands_for L (set S y k) j ≡ k
    hit j q = ap (λ (z : ℕ). get_or (set S y k) z 0) q ∙ get_or-set_same S y k 0 l

    miss : (j : ℕ) → (slot_of (get_or L j 0) ≡ y → ⊥) → stands_for L (set S y k) j ≡ stands_for L S j
    miss j q = get_or-set_other S y (slot_of (get_or L j 0)) k 0 q

    below : (j : ℕ) → j < k + 1 → Dec (slot_of (get_or L j 0) ≡ y) → Dec (j ≡ k) → stands_for L (set S y k) j < k + 1
    below j m (yes q) d = let z = hit j q in omega arith
    below j m (no q) (yes i) = absurd (q (ap (λ (z : ℕ). slot_of (get_or L z 0)) i ∙ sym e))
    below j m (no q) (no i) = let z = miss j q in let u = w.low j (omega arith) in omega arith

    slot : (j : ℕ) → j < k + 1 → Dec (slot_of (get_or L j 0) ≡ y) → Dec (j ≡ k) → slot_of (get_or L (stands_for L (set S y k) j) 0) ≡ slot_of (get_or L j 0)
    slot j m (yes q) d = ap (λ (z : ℕ). slot_of (get_or L z 0)) (hit j q) ∙ (sym e ∙ sym q)
    slot j m (no q) (yes i) = absurd (q (ap (λ (z : ℕ). slot_of (get_or L z 0)) i ∙ sym e))
    slot j m (no q) (no i) = ap (λ (z : ℕ). slot_of (get_or L z 0)) (miss j q) ∙ w.same j (omega arith)

-- a concept's own place in its row
module _ {n : ℕ} {L S : List ℕ} (w : Slotted n L S) (y d : ℕ) (e : y ≡ slot_of (get_or L d 0)) (l : d < n) (few : n ≤ 4096) where
  own_low : get_or S y 0 < 4096
  own_low = let v : get_or S y 0 < n = subst (λ (z : ℕ). get_or S z 0 < n) (sym e) (w.low d l) in omega arith

  pub own_sum : Fits w64 (d * 8 + get_or S y 0 / 512)
  own_sum = let v = own_low in omega arith

  pub own_room : {m : ℕ} → n * 64 ≤ m → ((d * 8 + get_or S y 0 / 512) * 8 + 8 ≤ m) × (get_or S y 0 % 512 < 512)
  own_room i = let v = own_low in (omega arith, omega arith)

pub own_put : (L S : List ℕ) {D E : List ℕ} (y d : ℕ) → y ≡ slot_of (get_or L d 0) → Put D ((d * 8 + get_or S y 0 / 512) * 512 + get_or S y 0 % 512) E → Put D (d * 4096 + stands_for L S d) E
own_put L S {D} {E} y d e p =
    let z : (d * 8 + get_or S y 0 / 512) * 512 + get_or S y 0 % 512 ≡ d * 4096 + get_or S y 0 = omega arith in
    subst (λ (i : ℕ). Put D (d * 4096 + get_or S i 0) E) e (subst (λ (i : ℕ). Put D i E) z p)

-- ---- all concepts

module _ {s : List ℕ} {h : Counts} {O L S : List ℕ} (o : Open s h O) (few : h.concepts ≤ 4096) (known : Leaves h (book_of s) h.concepts L) (slotted : Slotted h.concepts L S) where
  abbrev B : Book
  B = book_of s

  abbrev of_slot : ℕ → Concept → Bool
  of_slot k e = eqb (slot_tree e) (slot_of (get_or L k 0))

  -- a row of parts
  pub deep_and : {d : ℕ} {D E : List ℕ} → d < h.concepts → is_and_lem (concept (book_of s) d) ≡ true → Deep (book_of s) h.concepts L S d D → Parted s (parts_in s h d) d (parts_in s h d).len D E → Deep (book_of s) h.concepts L S (d + 1) E
  deep_and {d} {D} {E} l q w g = record { rows = λ x k m n. row x k m n (ℕ_discrete x d); blank = λ x j m n. g.other (x * 4096 + j) (λ e. omega arith) ∙ w.blank x j (omega arith) n }
    where
      row : (x k : ℕ) → x < d + 1 → k < h.concepts → Dec (x ≡ d) → at E (x * 4096 + stands_for L S k) ≡ some (leaves (concept B x)) (of_slot k)
      row x k m n (no e) = let u = slotted.low k n in g.other (x * 4096 + stands_for L S k) (λ z. e (omega arith)) ∙ w.rows x k (omega arith) n
      row x k m n (yes e) =
          let u : stands_for L S k < 4096 = omega (arith, slotted.low k n) in
          ap (λ (z : ℕ). at E (z * 4096 + stands_for L S k)) e
          ∙ (g.all (stands_for L S k) u
          ∙ (ap (λ (z : Bool). z || any (parts_in s h d).len (λ y. at D (number_at_lem s ((parts_in s h d).at + 2 * y) * 4096 + stands_for L S k))) (w.blank d (stands_for L S k) (omega arith) u)
          ∙ (any_same (parts_in s h d).len _ _ (λ y i. w.rows (number_at_lem s ((parts_in s h d).at + 2 * y)) k (part_below o (of_slot k) d l y i) n)
          ∙ (and_passes o (of_slot k) d l q ∙ ap (λ (z : ℕ). some (leaves (concept B z)) (of_slot k)) (sym e)))))

  -- a leaf of its own
  pub deep_own : {d : ℕ} {D E : List ℕ} → d < h.concepts → is_and_lem (concept (book_of s) d) ≡ false → Deep (book_of s) h.concepts L S d D → Put D (d * 4096 + stands_for L S d) E → Deep (book_of s) h.concepts L S (d + 1) E
  deep_own {d} {D} {E} l q w g = record { rows = λ x k m n. row x k m n (ℕ_discrete x d); blank = λ x j m n. let u = slotted.low d l in g.other (x * 4096 + j) (λ e. omega arith) ∙ w.blank x j (omega arith) n }
    where
      alone : (k : ℕ) → some (leaves (concept B d)) (of_slot k) ≡ eqb (slot_of (get_or L d 0)) (slot_of (get_or L k 0))
      alone k = ap (λ (x : List Concept). some x (of_slot k)) (own_leaf (concept B d) q) ∙ (or-false (of_slot k (concept B d)) ∙ ap (λ (z : ℕ). eqb z (slot_of (get_or L k 0))) (leaf_slot (known.leaf d l)))

      new : (k : ℕ) → k < h.concepts → Dec (stands_for L S k ≡ stands_for L S d) → at E (d * 4096 + stands_for L S k) ≡ eqb (slot_of (get_or L d 0)) (slot_of (get_or L k 0))
      new k n (yes e) = ap (λ (z : ℕ). at E (d * 4096 + z)) e ∙ (g.there ∙ sym (eq-eqb (slot_of (get_or L d 0)) (slot_of (get_or L k 0)) (sym (slotted.same d l) ∙ (ap (λ (z : ℕ). slot_of (get_or L z 0)) (sym e) ∙ slotted.same k n))))
      new k n (no e) =
          let u = slotted.low k n in
          let v = slotted.low d l in
          g.other (d * 4096 + stands_for L S k) (λ z. e (omega arith))
          ∙ (w.blank d (stands_for L S k) (omega arith) (omega arith)
          ∙ sym (ne_eqb (slot_of (get_or L d 0)) (slot_of (get_or L k 0)) (λ z. e (ap (λ (i : ℕ). get_or S i 0) (sym z)))))

      row : (x k : ℕ) → x < d + 1 → k < h.concepts → Dec (x ≡ d) → at E (x * 4096 + stands_for L S k) ≡ some (leaves (concept B x)) (of_slot k)
      row x k m n (no e) = let u = slotted.low k n in let v = slotted.low d l in g.other (x * 4096 + stands_for L S k) (λ z. e (omega arith)) ∙ w.rows x k (omega arith) n
      row x k m n (yes e) = ap (λ (z : ℕ). at E (z * 4096 + stands_for L S k)) e ∙ (new k n (ℕ_discrete (stands_for L S k) (stands_for L S d)) ∙ (sym (alone k) ∙ ap (λ (z : ℕ). some (leaves (concept B z)) (of_slot k)) (sym e)))

  -- what the look-up says
  pub deep_has : {D : List ℕ} → Deep (book_of s) h.concepts L S h.concepts D → (d y : ℕ) → d < h.concepts → leaf_has_lem h.concepts L S D d y ≡ some (leaves (concept (book_of s) d)) (λ e. eqb (slot_tree e) y)
  unfolding leaf_has_lem
  deep_has {D} w d y l = go (dec_lt (get_or S y 0) h.concepts) (ℕ_discrete (slot_of (get_or L (get_or S y 0) 0)) y)
    where
      absent : ((get_or S y 0 < h.concepts) → slot_of (get_or L (get_or S y 0) 0) ≡ y → ⊥) → some (leaves (concept B d)) (λ e. eqb (slot_tree e) y) ≡ false
      absent no_slot = not-true (some (leaves (concept B d)) (λ e. eqb (slot_tree e) y)) (λ e.
          let j = leaf_concept_lem o (λ x. eqb (slot_tree x) y) (suc d) d (omega arith) l e in
          let z : slot_of (get_or L j.0 0) ≡ y = sym (leaf_slot (known.leaf j.0 j.1)) ∙ eqb-true (slot_tree (concept B j.0)) y j.2 in
          no_slot (subst (λ (x : ℕ). get_or S x 0 < h.concepts) z (slotted.low j.0 j.1)) (subst (λ (x : ℕ). slot_of (get_or L (get_or S x 0) 0) ≡ x) z (slotted.same j.0 j.1)))

      go : Dec (get_or S y 0 < h.concepts) → Dec (slot_of (get_or L (get_or S y 0) 0) ≡ y) → (ltb (get_or S y 0) h.concepts && (eqb (slot_of (get_or L (get_or S y 0) 0)) y && at D (d * 4096 + get_or S y 0))) ≡ some (leaves (concept B d)) (λ e. eqb (slot_tree e) y)
      go (yes m) (yes e) =
          rw (lt-ltb (get_or S y 0) h.concepts m, eq-eqb (slot_of (get_or L (get_or S y 0) 0)) y e)
          (subst (λ (x : ℕ). at D (d * 4096 + get_or S x 0) ≡ some (leaves (concept B d)) (λ t. eqb (slot_tree t) x)) e (w.rows d (get_or S y 0) l m))
      go (yes m) (no e) = rw (lt-ltb (get_or S y 0) h.concepts m, ne_eqb (slot_of (get_or L (get_or S y 0) 0)) y e) (sym (absent (λ u v. e v)))
      go (no m) d = rw (le-ltb (get_or S y 0) h.concepts (omega arith)) (sym (absent (λ u v. m u)))
