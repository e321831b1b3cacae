-- Slots of leaves: of the number and of the tree they are one, and a leaf of a slot tells the fact that the slot stands for.
use Prim.Native.Nat.{ℕ, ◌+◌, ◌*◌, ◌/◌, ◌%◌, ◌<◌, ◌≤◌}
use native.Mathlib.Omega.{arith}
use mathlib.Core.Path.{◌≡◌, refl, ap, sym, ◌∙◌, subst}
use mathlib.Core.Bool.{Bool, true, false, ◌&&◌, ◌||◌, or-false}
use mathlib.Core.Logic.{⊎_elim}
use mathlib.Core.List.{List, [], ◌∷◌}
use lib.ListN.{get_or}
use lib.Dec.{eqb, ltb}
use borrow.Author.Tests.{eqb-true, eq-eqb, ne_eqb, ltb-true, lt-ltb, le-ltb}
use Rattle.book.specs.Read.{pick}
use Rattle.book.specs.Role.{role_id, field_of_lem}
use Rattle.book.specs.Tree.{Concept}
use Rattle.book.specs.Book.{Book}
use Rattle.book.specs.declared.header.Counts.{Counts}
use Rattle.book.specs.declared.role.Role.{Role}
use Rattle.book.specs.declared.role.Role.TheVariants.{Named, Inverse}
use Rattle.rows.specs.Row.{has}
use Rattle.rules.specs.Fact.{edge, type}
use Rattle.rules.specs.Rule.{some}
use Rattle.rules.specs.Brought.{concept, Value, Shape, atomic, nominal, conjunction, existential, other, shape, leaves, class_of, filler_value, value_in, atomic_of, value_of, atomics, values}
use Rattle.rules.proofs.Tests.{false_true, both_ways, or_cases, or_left, or_right, and_both, and_intro}
use Rattle.tables.specs.Leaf.{kind_in}
use Rattle.tables.proofs.Members.{Member, member, some_map, some_same, some_from}
use Rattle.derivation.specs.Fits.{leads_from_lem, leads_to_lem, bearer, class_in_lem, role_in_lem, class_fits_lem, value_fits_lem, told_fits_lem, bring_fits_lem}
use Rattle.derivation.specs.Tables.{no_slot, value_slot, shape_slot, slot_tree, slot_of, leaf_has_lem, ConceptsOf}
use Rattle.derivation.proofs.Fitting.{type_class}

pub slot_atomic : (x r : ℕ) → eqb (x / 1048576) 1 ≡ true → r ≡ pick (ltb (x % 1048576) 256) (65536 + x % 1048576) no_slot → r ≡ slot_of x
unfolding slot_of
slot_atomic x r e q = rw (q, e) refl

pub slot_value : (x r : ℕ) → eqb (x / 1048576) 1 ≡ false → eqb (x / 1048576) 4 ≡ true → r ≡ pick (ltb (x % 1048576) 65536) (0 + x % 1048576) no_slot → r ≡ slot_of x
unfolding slot_of
slot_value x r e f q = let z : 0 + x % 1048576 ≡ x % 1048576 = omega arith in rw (q, e, f, z) refl

pub slot_none : (x : ℕ) → eqb (x / 1048576) 1 ≡ false → eqb (x / 1048576) 4 ≡ false → no_slot ≡ slot_of x
unfolding slot_of
slot_none x e f = rw (e, f) refl

module _ (n : ℕ) (L S D : List ℕ) (d y : ℕ) where
  pub leaf_found : (s : ℕ) (m : Bool) → get_or S y 0 < n → s ≡ slot_of (get_or L (get_or S y 0) 0) → m ≡ has D (d * 8 + get_or S y 0 / 512) (get_or S y 0 % 512) → (eqb s y && m) ≡ leaf_has_lem n L S D d y
  unfolding leaf_has_lem
  leaf_found s m l e f =
      let z : (d * 8 + get_or S y 0 / 512) * 512 + get_or S y 0 % 512 ≡ d * 4096 + get_or S y 0 = omega arith in
      rw (e, f, lt-ltb (get_or S y 0) n l, z) refl

  pub leaf_past : n ≤ get_or S y 0 → false ≡ leaf_has_lem n L S D d y
  unfolding leaf_has_lem
  leaf_past l = rw (le-ltb (get_or S y 0) n l) refl

-- ---- the tree of a leaf, and its slot

eqb_same : (x y z w : ℕ) → (x ≡ y → z ≡ w) → (z ≡ w → x ≡ y) → eqb x y ≡ eqb z w
eqb_same x y z w p q = both_ways _ _ (λ e. eq-eqb z w (p (eqb-true x y e))) (λ e. eq-eqb x y (q (eqb-true z w e)))

module _ (c : ℕ) (l : c < 256) where
  no_class : eqb no_slot (65536 + c) ≡ false
  no_class = ne_eqb no_slot (65536 + c) (λ e. omega arith)

  class_value : (r : Role) (x : Shape) → eqb (value_slot r x) (65536 + c) ≡ false
  class_value r (atomic a) = no_class
  class_value r (nominal b) = go (ltb (field_of_lem r) 128) (ltb b 512) refl refl
    where
      go : (p q : Bool) → ltb (field_of_lem r) 128 ≡ p → ltb b 512 ≡ q → eqb (pick (p && q) (field_of_lem r * 512 + b) no_slot) (65536 + c) ≡ false
      go true true i j = let m = ltb-true (field_of_lem r) 128 i in let n = ltb-true b 512 j in ne_eqb (field_of_lem r * 512 + b) (65536 + c) (λ e. omega arith)
      go true false i j = no_class
      go false q i j = no_class
  class_value r (conjunction es) = no_class
  class_value r (existential s e) = no_class
  class_value r other = no_class

  class_shape : (x : Shape) → eqb (shape_slot x) (65536 + c) ≡ some (class_of x) (λ y. eqb y c)
  class_shape (atomic a) = go (ltb a 256) refl ∙ sym (or-false (eqb a c))
    where
      go : (b : Bool) → ltb a 256 ≡ b → eqb (pick b (65536 + a) no_slot) (65536 + c) ≡ eqb a c
      go true i = eqb_same (65536 + a) (65536 + c) a c (λ e. omega arith) (λ e. omega arith)
      go false i = no_class ∙ sym (ne_eqb a c (λ e. false_true (sym i ∙ lt-ltb a 256 (omega arith))))
  class_shape (nominal b) = no_class
  class_shape (conjunction es) = no_class
  class_shape (existential r e) = class_value r (shape e)
  class_shape other = no_class

  pub classes_some : (e : Concept) → some (leaves e) (λ x. eqb (slot_tree x) (65536 + c)) ≡ some (atomics e) (λ y. eqb y c)
  unfolding atomics
  classes_some e = some_same _ _ (λ x. class_shape (shape x)) (leaves e) ∙ sym (some_from (λ y. eqb y c) atomic_of (leaves e))

module _ (f b : ℕ) (m : f < 128) (n : b < 512) where
  abbrev of_value : Value → Bool
  of_value v = eqb (field_of_lem v.role) f && eqb v.to b

  no_value : eqb no_slot (f * 512 + b) ≡ false
  no_value = ne_eqb no_slot (f * 512 + b) (λ e. omega arith)

  value_filler : (r : Role) (x : Shape) → eqb (value_slot r x) (f * 512 + b) ≡ some (filler_value r x) of_value
  value_filler r (atomic a) = no_value
  value_filler r (nominal i) = go (ltb (field_of_lem r) 128) (ltb i 512) refl refl ∙ sym (or-false (eqb (field_of_lem r) f && eqb i b))
    where
      go : (p q : Bool) → ltb (field_of_lem r) 128 ≡ p → ltb i 512 ≡ q → eqb (pick (p && q) (field_of_lem r * 512 + i) no_slot) (f * 512 + b) ≡ (eqb (field_of_lem r) f && eqb i b)
      go true true s t =
          let x = ltb-true (field_of_lem r) 128 s in
          let y = ltb-true i 512 t in
          both_ways _ _
          (λ e. let z = eqb-true (field_of_lem r * 512 + i) (f * 512 + b) e in and_intro _ _ (eq-eqb (field_of_lem r) f (omega arith)) (eq-eqb i b (omega arith)))
          (λ e. let z = and_both (eqb (field_of_lem r) f) (eqb i b) e in let u = eqb-true (field_of_lem r) f z.0 in let v = eqb-true i b z.1 in eq-eqb (field_of_lem r * 512 + i) (f * 512 + b) (omega arith))
      go true false s t = no_value ∙ both_ways false _ (λ e. false_true e) (λ e. let z = and_both (eqb (field_of_lem r) f) (eqb i b) e in let v = eqb-true i b z.1 in false_true (sym t ∙ lt-ltb i 512 (omega arith)))
      go false q s t = no_value ∙ both_ways false _ (λ e. false_true e) (λ e. let z = and_both (eqb (field_of_lem r) f) (eqb i b) e in let u = eqb-true (field_of_lem r) f z.0 in false_true (sym s ∙ lt-ltb (field_of_lem r) 128 (omega arith)))
  value_filler r (conjunction es) = no_value
  value_filler r (existential s e) = no_value
  value_filler r other = no_value

  value_class : (a : ℕ) → eqb (pick (ltb a 256) (65536 + a) no_slot) (f * 512 + b) ≡ false
  value_class a = go (ltb a 256)
    where
      go : (x : Bool) → eqb (pick x (65536 + a) no_slot) (f * 512 + b) ≡ false
      go true = ne_eqb (65536 + a) (f * 512 + b) (λ e. omega arith)
      go false = no_value

  value_shape : (x : Shape) → eqb (shape_slot x) (f * 512 + b) ≡ some (value_in x) of_value
  value_shape (atomic a) = value_class a
  value_shape (nominal i) = no_value
  value_shape (conjunction es) = no_value
  value_shape (existential r e) = value_filler r (shape e)
  value_shape other = no_value

  pub values_some : (e : Concept) → some (leaves e) (λ x. eqb (slot_tree x) (f * 512 + b)) ≡ some (values e) (λ v. eqb (field_of_lem v.role) f && eqb v.to b)
  unfolding values
  values_some e = some_same _ _ (λ x. value_shape (shape x)) (leaves e) ∙ sym (some_from of_value value_of (leaves e))

-- ---- what the tables say of a concept

module _ {B : Book} {h : Counts} {L S D : List ℕ} (t : ConceptsOf B h L S D) (d : ℕ) (below : d < h.concepts) (i : ℕ) (low : i < 512) (f : ℕ) where
  pub class_fit : {c y : ℕ} {known : Bool} → (c ≡ class_in_lem f) × (c < 256) → known ≡ leaf_has_lem h.concepts L S D d (65536 + c) → y ≡ type i c → (eqb f y && known) ≡ class_fits_lem (concept B d) i f
  unfolding class_fits_lem
  class_fit {c} {y} {known} q e w =
      let k : known ≡ some (atomics (concept B d)) (λ x. eqb x c) = e ∙ (t.deep d (65536 + c) below (omega arith) ∙ classes_some c q.1 (concept B d)) in
      rw (k, w) (both_ways _ _ into back)
    where
      into : (eqb f (type i c) && some (atomics (concept B d)) (λ x. eqb x c)) ≡ true → some (atomics (concept B d)) (λ x. eqb f (type i x)) ≡ true
      into e =
          let a = and_both (eqb f (type i c)) _ e in
          some_map _ _ (λ x z. ap (λ (u : ℕ). eqb f (type i u)) (eqb-true x c z) ∙ a.0) (atomics (concept B d)) a.1

      back : some (atomics (concept B d)) (λ x. eqb f (type i x)) ≡ true → (eqb f (type i c) && some (atomics (concept B d)) (λ x. eqb x c)) ≡ true
      back e =
          let m : Member (λ x. x < 256) (λ x. eqb f (type i x)) (atomics (concept B d)) = member (λ x. x < 256) (λ x. eqb f (type i x)) (atomics (concept B d)) (t.classes_low d) e in
          let z : m.it ≡ c = sym (type_class i m.it m.holds) ∙ (ap class_in_lem (sym (eqb-true f _ m.passes)) ∙ sym q.0) in
          and_intro _ _ (ap (λ (u : ℕ). eqb f (type i u)) (sym z) ∙ m.passes) (m.among (λ x. eqb x c) (eq-eqb m.it c z))

  -- the parts of an edge's number
  split : role_in_lem f < 64 → f ≡ (role_in_lem f * 512 + leads_from_lem (Named 0) f) * 512 + leads_to_lem (Named 0) f
  split l = omega arith

  edge_parts : (r : Role) (b : ℕ) → role_id r < 64 → b < 512 → f ≡ edge r i b → role_in_lem f < 64
  unfolding edge
  edge_parts (Named r) b l m e = omega arith
  edge_parts (Inverse r) b l m e = omega arith

  pub value_none : 64 ≤ role_in_lem f → false ≡ value_fits_lem (concept B d) i f
  unfolding value_fits_lem
  value_none l = both_ways false _ (λ e. false_true e) (λ e.
      let m : Member (λ (v : Value). (role_id v.role < 64) × (v.to < 512)) (λ v. eqb f (edge v.role i v.to)) (values (concept B d)) = member _ (λ v. eqb f (edge v.role i v.to)) (values (concept B d)) (t.values_low d) e in
      let z = edge_parts m.it.role m.it.to m.holds.0 m.holds.1 (eqb-true f _ m.passes) in
      absurd (omega arith))

  named_is : (r a b : ℕ) → f ≡ (r * 512 + a) * 512 + b → a ≡ i → f ≡ edge (Named r) i b
  unfolding edge
  named_is r a b e q = omega arith

  inverse_is : (r a b : ℕ) → f ≡ (r * 512 + a) * 512 + b → b ≡ i → f ≡ edge (Inverse r) i a
  unfolding edge
  inverse_is r a b e q = omega arith

  value_is : (r : Role) (b k a c : ℕ) → field_of_lem r ≡ 2 * k → f ≡ (k * 512 + a) * 512 + c → a ≡ i → b ≡ c → f ≡ edge r i b
  value_is (Named r) b k a c e q u v = let z : r ≡ k = omega arith in rw (v, z) (named_is k a c q u)
  value_is (Inverse r) b k a c e q u v = absurd (omega arith)

  value_inverse : (r : Role) (b k a c : ℕ) → field_of_lem r ≡ 2 * k + 1 → f ≡ (k * 512 + a) * 512 + c → c ≡ i → b ≡ a → f ≡ edge r i b
  value_inverse (Named r) b k a c e q u v = absurd (omega arith)
  value_inverse (Inverse r) b k a c e q u v = let z : r ≡ k = omega arith in rw (v, z) (inverse_is k a c q u)

  parts_named : (r b : ℕ) → b < 512 → f ≡ edge (Named r) i b → (role_in_lem f ≡ r) × (leads_from_lem (Named 0) f ≡ i) × (leads_to_lem (Named 0) f ≡ b)
  unfolding edge
  parts_named r b m e = (omega arith, omega arith, omega arith)

  parts_inverse : (r b : ℕ) → b < 512 → f ≡ edge (Inverse r) i b → (role_in_lem f ≡ r) × (leads_to_lem (Named 0) f ≡ i) × (leads_from_lem (Named 0) f ≡ b)
  unfolding edge
  parts_inverse r b m e = (omega arith, omega arith, omega arith)

  abbrev is_value : ℕ → ℕ → Bool
  is_value field b = some (values (concept B d)) (λ v. eqb (field_of_lem v.role) field && eqb v.to b)

  value_both : role_in_lem f < 64 → ((eqb (leads_from_lem (Named 0) f) i && is_value (2 * role_in_lem f) (leads_to_lem (Named 0) f)) || (eqb (leads_to_lem (Named 0) f) i && is_value (2 * role_in_lem f + 1) (leads_from_lem (Named 0) f))) ≡ value_fits_lem (concept B d) i f
  unfolding value_fits_lem
  value_both l = both_ways _ _ into back
    where
      into : ((eqb (leads_from_lem (Named 0) f) i && is_value (2 * role_in_lem f) (leads_to_lem (Named 0) f)) || (eqb (leads_to_lem (Named 0) f) i && is_value (2 * role_in_lem f + 1) (leads_from_lem (Named 0) f))) ≡ true → some (values (concept B d)) (λ v. eqb f (edge v.role i v.to)) ≡ true
      into e =
          ⊎_elim
          (λ z.
          let a = and_both (eqb (leads_from_lem (Named 0) f) i) _ z in
          some_map _ _ (λ (v : Value) u. let b = and_both (eqb (field_of_lem v.role) (2 * role_in_lem f)) _ u in eq-eqb f _ (value_is v.role v.to (role_in_lem f) (leads_from_lem (Named 0) f) (leads_to_lem (Named 0) f) (eqb-true (field_of_lem v.role) (2 * role_in_lem f) b.0) (split l) (eqb-true (leads_from_lem (Named 0) f) i a.0) (eqb-true v.to (leads_to_lem (Named 0) f) b.1))) (values (concept B d)) a.1)
          (λ z.
          let a = and_both (eqb (leads_to_lem (Named 0) f) i) _ z in
          some_map _ _ (λ (v : Value) u. let b = and_both (eqb (field_of_lem v.role) (2 * role_in_lem f + 1)) _ u in eq-eqb f _ (value_inverse v.role v.to (role_in_lem f) (leads_from_lem (Named 0) f) (leads_to_lem (Named 0) f) (eqb-true (field_of_lem v.role) (2 * role_in_lem f + 1) b.0) (split l) (eqb-true (leads_to_lem (Named 0) f) i a.0) (eqb-true v.to (leads_from_lem (Named 0) f) b.1))) (values (concept B d)) a.1)
          (or_cases (eqb (leads_from_lem (Named 0) f) i && is_value (2 * role_in_lem f) (leads_to_lem (Named 0) f)) _ e)

      go : (r : Role) (b : ℕ) → b < 512 → f ≡ edge r i b → ((g : Value → Bool) → g (record { role = r; to = b }) ≡ true → some (values (concept B d)) g ≡ true) → ((eqb (leads_from_lem (Named 0) f) i && is_value (2 * role_in_lem f) (leads_to_lem (Named 0) f)) || (eqb (leads_to_lem (Named 0) f) i && is_value (2 * role_in_lem f + 1) (leads_from_lem (Named 0) f))) ≡ true
      go (Named r) b m e among =
          let p = parts_named r b m e in
          or_left (eqb (leads_from_lem (Named 0) f) i && is_value (2 * role_in_lem f) (leads_to_lem (Named 0) f)) _
          (and_intro _ _ (eq-eqb (leads_from_lem (Named 0) f) i p.1) (among _ (and_intro _ _ (eq-eqb (2 * r) (2 * role_in_lem f) (ap (λ (x : ℕ). 2 * x) (sym p.0))) (eq-eqb b (leads_to_lem (Named 0) f) (sym p.2)))))
      go (Inverse r) b m e among =
          let p = parts_inverse r b m e in
          or_right (eqb (leads_from_lem (Named 0) f) i && is_value (2 * role_in_lem f) (leads_to_lem (Named 0) f)) _
          (and_intro _ _ (eq-eqb (leads_to_lem (Named 0) f) i p.1) (among _ (and_intro _ _ (eq-eqb (2 * r + 1) (2 * role_in_lem f + 1) (ap (λ (x : ℕ). 2 * x + 1) (sym p.0))) (eq-eqb b (leads_from_lem (Named 0) f) (sym p.2)))))

      back : some (values (concept B d)) (λ v. eqb f (edge v.role i v.to)) ≡ true → ((eqb (leads_from_lem (Named 0) f) i && is_value (2 * role_in_lem f) (leads_to_lem (Named 0) f)) || (eqb (leads_to_lem (Named 0) f) i && is_value (2 * role_in_lem f + 1) (leads_from_lem (Named 0) f))) ≡ true
      back e =
          let m : Member (λ (v : Value). (role_id v.role < 64) × (v.to < 512)) (λ v. eqb f (edge v.role i v.to)) (values (concept B d)) = member _ (λ v. eqb f (edge v.role i v.to)) (values (concept B d)) (t.values_low d) e in
          go m.it.role m.it.to m.holds.1 (eqb-true f _ m.passes) m.among

  pub value_fit : {r a b : ℕ} {named inverse : Bool} → r ≡ role_in_lem f → r < 64 → (a ≡ leads_from_lem (Named 0) f) × (a < 512) → (b ≡ leads_to_lem (Named 0) f) × (b < 512) → named ≡ leaf_has_lem h.concepts L S D d (2 * r * 512 + b) → inverse ≡ leaf_has_lem h.concepts L S D d ((2 * r + 1) * 512 + a)
      → ((eqb a i && named) || (eqb b i && inverse)) ≡ value_fits_lem (concept B d) i f
  value_fit {r} {a} {b} {named} {inverse} er lr ea eb en ei =
      let n : named ≡ is_value (2 * r) b = en ∙ (t.deep d (2 * r * 512 + b) below (omega (arith, eb.1)) ∙ values_some (2 * r) b (omega arith) eb.1 (concept B d)) in
      let v : inverse ≡ is_value (2 * r + 1) a = ei ∙ (t.deep d ((2 * r + 1) * 512 + a) below (omega (arith, ea.1)) ∙ values_some (2 * r + 1) a (omega arith) ea.1 (concept B d)) in
      rw (n, v, er, ea.0, eb.0) (value_both (subst (λ (x : ℕ). x < 64) er lr))

-- ---- rule 2

module _ {B : Book} {h : Counts} {L S D : List ℕ} (t : ConceptsOf B h L S D) (c : ℕ) (below : c < h.concepts) (n d f g : ℕ) where
  left_is : eqb (kind_in (get_or L c 0)) 1 ≡ true → atomic_of (concept B c) ≡ get_or L c 0 % 1048576 ∷ []
  left_is e = (t.leaf.leaf c below).classes ∙ rw e refl

  pub bring_fit : {a y : ℕ} {told : Bool} → eqb (kind_in (get_or L c 0)) 1 ≡ true → a ≡ bearer g → told ≡ told_fits_lem (concept B d) a f → y ≡ type a (get_or L c 0 % 1048576)
      → (ltb a n && (eqb g y && told)) ≡ bring_fits_lem n (concept B c) (concept B d) f g
  unfolding bring_fits_lem
  bring_fit e q w z = rw (z, w, q, left_is e, or-false (eqb g (type (bearer g) (get_or L c 0 % 1048576)))) refl

  -- the premise is told apart first
  pub bring_told : {a y : ℕ} {told : Bool} → eqb (kind_in (get_or L c 0)) 1 ≡ true → a ≡ bearer g → told ≡ told_fits_lem (concept B d) a f → y ≡ type a (get_or L c 0 % 1048576)
      → (ltb a n && eqb g y) ≡ true → told ≡ bring_fits_lem n (concept B c) (concept B d) f g
  bring_told {a} {y} {told} e q w z k = go (ltb a n) (eqb g y) k ∙ bring_fit e q w z
    where
      go : (u v : Bool) → (u && v) ≡ true → told ≡ (u && (v && told))
      go true true i = refl
      go true false i = false_true i
      go false v i = false_true i

  pub bring_other : {a y : ℕ} → eqb (kind_in (get_or L c 0)) 1 ≡ true → a ≡ bearer g → y ≡ type a (get_or L c 0 % 1048576)
      → (ltb a n && eqb g y) ≡ false → false ≡ bring_fits_lem n (concept B c) (concept B d) f g
  bring_other {a} {y} e q z k = go (ltb a n) (eqb g y) k ∙ bring_fit e q refl z
    where
      go : (u v : Bool) → (u && v) ≡ false → false ≡ (u && (v && told_fits_lem (concept B d) a f))
      go true true i = false_true (sym i)
      go true false i = refl
      go false v i = refl

  pub bring_none : eqb (kind_in (get_or L c 0)) 1 ≡ false → false ≡ bring_fits_lem n (concept B c) (concept B d) f g
  unfolding bring_fits_lem
  bring_none e =
      let l : atomic_of (concept B c) ≡ [] = (t.leaf.leaf c below).classes ∙ rw e refl in
      rw l (none (ltb (bearer g) n))
    where
      none : (b : Bool) → false ≡ (b && (false && told_fits_lem (concept B d) (bearer g) f))
      none true = refl
      none false = refl
