-- The ways of the functions that join two or three premises, and of those that try one after the other.
use Prim.Native.Nat.{ℕ, ◌<◌}
use native.Mathlib.Omega.{arith}
use mathlib.Core.Path.{◌≡◌, refl, ap, ap₂, sym, ◌∙◌}
use mathlib.Core.Bool.{Bool, true, false, ◌&&◌, ◌||◌}
use mathlib.Core.List.{List, [], ◌∷◌}
use lib.Dec.{eqb}
use borrow.Author.Tests.{eqb-true, eq-eqb}
use denote.Enum.Declared.{tag_of}
use types.Run.{miss}
use borrow.Enum.Refused.{Among, opened}
use Rattle.book.specs.Book.{Book}
use Rattle.book.specs.declared.header.Counts.{Counts}
use Rattle.book.specs.declared.role.Role.{Role}
use Rattle.book.specs.declared.role.Role.TheVariants.{Named, Inverse}
use Rattle.book.specs.declared.statement.SubRolePath.TheVariants.{One, Two, Three}
use Rattle.book.specs.declared.statement.Axiom.{Axiom}
use Rattle.book.specs.declared.statement.Axiom.TheVariants.{SubClassOf, EquivalentClasses, DisjointClasses, InverseObjectProperties, SubObjectPropertyOf, TransitiveRole, SymmetricRole, FunctionalRole, InverseFunctionalRole, ObjectPropertyDomain, ObjectPropertyRange, SameIndividual, ClassAssertion, ObjectPropertyAssertion, DifferentIndividuals, NegativeObjectPropertyAssertion}
use Rattle.book.specs.contracts.statement.Axiom.{the_type}
use Rattle.rules.specs.Fact.{edge}
use Rattle.rules.proofs.Tests.{false_true, not-true, or_left, or_right, and_both, and_intro}
use Rattle.derivation.specs.declared.chain.Chain.{Chain}
use Rattle.derivation.specs.declared.chain.Chain.TheVariants.{Alone, Pair, Triple, Fillers}
use Rattle.derivation.specs.Chained.{chain_of_lem, chain_fits_lem}
use Rattle.derivation.specs.Fits.{leads_from_lem, leads_to_lem, is_edge_lem, two_fits_lem, three_fits_lem, join_fits_lem, fits, one_of_three, any_order, any_two}
use Rattle.derivation.proofs.Fitting.{edge_from}

-- ---- one of three

module _ (p q t : ℕ) where
  pub three_same : (f g : ℕ → Bool) → ((x : ℕ) → f x ≡ g x) → one_of_three p q t f ≡ one_of_three p q t g
  three_same f g e = ap₂ ◌||◌ (e p) (ap₂ ◌||◌ (e q) (e t))

  constant : (b : Bool) → one_of_three p q t (λ x. b) ≡ b
  constant true = refl
  constant false = refl

  -- all false
  pub three_none : (f : ℕ → Bool) → ((x : ℕ) → f x ≡ false) → false ≡ one_of_three p q t f
  three_none f e = sym (three_same f (λ x. false) e)

  -- the third first, then the second, then the first
  pub order_third : {a : Bool} (f : ℕ → ℕ → ℕ → Bool) → a ≡ any_two p q t (f t) → a ≡ true → true ≡ any_order p q t f
  unfolding any_order
  order_third f e i = sym (or_right (any_two p q t (f p)) _ (or_right (any_two p q t (f q)) (any_two p q t (f t)) (sym e ∙ i)))

  pub order_second : {a : Bool} (f : ℕ → ℕ → ℕ → Bool) → a ≡ any_two p q t (f q) → a ≡ true → true ≡ any_order p q t f
  unfolding any_order
  order_second f e i = sym (or_right (any_two p q t (f p)) _ (or_left (any_two p q t (f q)) (any_two p q t (f t)) (sym e ∙ i)))

  pub order_first : {a b c : Bool} (f : ℕ → ℕ → ℕ → Bool) → a ≡ any_two p q t (f t) → a ≡ false → b ≡ any_two p q t (f q) → b ≡ false → c ≡ any_two p q t (f p) → c ≡ any_order p q t f
  unfolding any_order
  order_first {a} {b} {c} f e i g j h = h ∙ sym (ap₂ (λ x y. any_two p q t (f p) || (y || x)) (sym e ∙ i) (sym g ∙ j) ∙ alone (any_two p q t (f p)))
    where
      alone : (x : Bool) → (x || (false || false)) ≡ x
      alone true = refl
      alone false = refl

  -- orders in which the last premises are not looked at
  order_same : (f g : ℕ → ℕ → ℕ → Bool) → ((x y z : ℕ) → f x y z ≡ g x y z) → any_order p q t f ≡ any_order p q t g
  unfolding any_order
  order_same f g e = three_same _ _ λ x. three_same _ _ λ y. three_same _ _ λ z. e x y z

  order_one : (f : ℕ → Bool) → any_order p q t (λ x y z. f x) ≡ one_of_three p q t f
  unfolding any_order
  order_one f = three_same _ _ λ x. three_same _ (λ y. f x) (λ y. constant (f x)) ∙ constant (f x)

  order_two_lem : (f : ℕ → ℕ → Bool) → any_order p q t (λ x y z. f x y) ≡ any_two p q t f
  unfolding any_order
  order_two_lem f = three_same _ _ λ x. three_same _ _ λ y. constant (f x y)

  -- two as they stand, and backwards
  pub two_stand : {a : Bool} (f : ℕ → ℕ → Bool) → a ≡ f p q → a ≡ true → true ≡ any_two p q t f
  two_stand f e i = sym (or_left (one_of_three p q t (f p)) _ (or_right (f p p) _ (or_left (f p q) (f p t) (sym e ∙ i))))

  pub two_back : {a : Bool} (f : ℕ → ℕ → Bool) → a ≡ f q p → a ≡ true → true ≡ any_two p q t f
  two_back f e i = sym (or_right (one_of_three p q t (f p)) _ (or_left (one_of_three p q t (f q)) _ (or_left (f q p) _ (sym e ∙ i))))

  pub three_stand : {a : Bool} (f : ℕ → ℕ → ℕ → Bool) → a ≡ f p q t → a ≡ true → true ≡ any_order p q t f
  unfolding any_order
  three_stand f e i =
      sym (or_left (any_two p q t (f p)) _ (or_right (one_of_three p q t (f p p)) _ (or_left (one_of_three p q t (f p q)) _ (or_right (f p q p) _ (or_right (f p q q) (f p q t) (sym e ∙ i))))))

-- ---- what a statement joins

chain_fits : (B : Book) (x : Axiom) (f g h k : ℕ) → fits B x f g h k ≡ chain_fits_lem B x (chain_of_lem x) f g h k
unfolding fits
chain_fits B (SubClassOf c d) f g h k = refl
chain_fits B (EquivalentClasses c d) f g h k = refl
chain_fits B (DisjointClasses c d) f g h k = refl
chain_fits B (InverseObjectProperties r s) f g h k = refl
chain_fits B (SubObjectPropertyOf (One r) t) f g h k = refl
chain_fits B (SubObjectPropertyOf (Two r s) t) f g h k = refl
chain_fits B (SubObjectPropertyOf (Three r s u) t) f g h k = refl
chain_fits B (TransitiveRole r) f g h k = refl
chain_fits B (SymmetricRole r) f g h k = refl
chain_fits B (FunctionalRole r) f g h k = refl
chain_fits B (InverseFunctionalRole r) f g h k = refl
chain_fits B (ObjectPropertyDomain r c) f g h k = refl
chain_fits B (ObjectPropertyRange r c) f g h k = refl
chain_fits B (SameIndividual a b) f g h k = refl
chain_fits B (ClassAssertion c i) f g h k = refl
chain_fits B (ObjectPropertyAssertion r a b) f g h k = refl
chain_fits B (DifferentIndividuals a b) f g h k = refl
chain_fits B (NegativeObjectPropertyAssertion r a b) f g h k = refl

-- the tags of those that join nothing, whatever they hold
abbrev pub lone : List ℕ
lone = 0 ∷ 1 ∷ 2 ∷ 3 ∷ 6 ∷ 9 ∷ 10 ∷ 11 ∷ 12 ∷ 13 ∷ 14 ∷ 15 ∷ []

pub alone_tag : (x : Axiom) → Among lone (tag_of the_type x) → Alone ≡ chain_of_lem x
alone_tag (SubClassOf c d) k = refl
alone_tag (EquivalentClasses c d) k = refl
alone_tag (DisjointClasses c d) k = refl
alone_tag (InverseObjectProperties r s) k = refl
alone_tag (SubObjectPropertyOf p t) k = absurd (miss lone 4 tt (opened k))
alone_tag (TransitiveRole r) k = absurd (miss lone 5 tt (opened k))
alone_tag (SymmetricRole r) k = refl
alone_tag (FunctionalRole r) k = absurd (miss lone 7 tt (opened k))
alone_tag (InverseFunctionalRole r) k = absurd (miss lone 8 tt (opened k))
alone_tag (ObjectPropertyDomain r c) k = refl
alone_tag (ObjectPropertyRange r c) k = refl
alone_tag (SameIndividual a b) k = refl
alone_tag (ClassAssertion c i) k = refl
alone_tag (ObjectPropertyAssertion r a b) k = refl
alone_tag (DifferentIndividuals a b) k = refl
alone_tag (NegativeObjectPropertyAssertion r a b) k = refl

module _ (p q t : ℕ) (B : Book) (x : Axiom) (f : ℕ) {c : Chain} (e : c ≡ chain_of_lem x) where
  by_chain : (d : Chain) → c ≡ d → any_order p q t (fits B x f) ≡ any_order p q t (λ g h k. chain_fits_lem B x d f g h k)
  by_chain d i = order_same p q t _ _ λ g h k. chain_fits B x f g h k ∙ ap (λ (z : Chain). chain_fits_lem B x z f g h k) (sym e ∙ i)

  pub alone_order : {y : Bool} → c ≡ Alone → y ≡ one_of_three p q t (λ g. fits B x f g g g) → y ≡ any_order p q t (fits B x f)
  alone_order i w = w ∙ sym (by_chain Alone i ∙ order_one p q t (λ g. fits B x f g g g))

  module _ {h : Counts} (counts : B.counts ≡ h) where
    pub pair_order : {y : Bool} (r s u : Role) → c ≡ Pair r s u → y ≡ any_two p q t (two_fits_lem h.individuals r s u f) → y ≡ any_order p q t (fits B x f)
    pair_order r s u i w =
        w ∙ sym (by_chain (Pair r s u) i ∙ (order_two_lem p q t (λ g k. two_fits_lem B.counts.individuals r s u f g k) ∙ ap (λ (z : Counts). any_two p q t (two_fits_lem z.individuals r s u f)) counts))

    pub triple_order : {y : Bool} (r s u v : Role) → c ≡ Triple r s u v → y ≡ any_order p q t (three_fits_lem h.individuals r s u v f) → y ≡ any_order p q t (fits B x f)
    triple_order r s u v i w = w ∙ sym (by_chain (Triple r s u v) i ∙ ap (λ (z : Counts). any_order p q t (three_fits_lem z.individuals r s u v f)) counts)

    pub fillers_order : {y : Bool} (r : Role) → c ≡ Fillers r → y ≡ any_two p q t (join_fits_lem h.individuals r f) → y ≡ any_order p q t (fits B x f)
    fillers_order r i w =
        w ∙ sym (by_chain (Fillers r) i ∙ (order_two_lem p q t (λ g k. join_fits_lem B.counts.individuals r f g k) ∙ ap (λ (z : Counts). any_two p q t (join_fits_lem z.individuals r f)) counts))

-- ---- a path begins where the fact does

low_from : (r : Role) (g : ℕ) → leads_from_lem r g < 512
low_from (Named r) g = omega arith
low_from (Inverse r) g = omega arith

low_to : (r : Role) (g : ℕ) → leads_to_lem r g < 512
low_to (Named r) g = omega arith
low_to (Inverse r) g = omega arith

module _ (n : ℕ) (r s v t : Role) (f g p q u : ℕ) {y : Bool} (e : y ≡ (is_edge_lem n r g && eqb (leads_from_lem t f) (leads_from_lem r g))) (i : y ≡ false) where
  elsewhere : (d : ℕ) → d < 512 → is_edge_lem n r g ≡ true → eqb f (edge t (leads_from_lem r g) d) ≡ true → ⊥
  elsewhere d l j w =
      let k : leads_from_lem t f ≡ leads_from_lem r g = ap (leads_from_lem t) (eqb-true f (edge t (leads_from_lem r g) d) w) ∙ edge_from t (leads_from_lem r g) d (low_from r g) l in
      let z : true ≡ false = sym (and_intro (is_edge_lem n r g) (eqb (leads_from_lem t f) (leads_from_lem r g)) j (eq-eqb (leads_from_lem t f) (leads_from_lem r g) k)) ∙ (sym e ∙ i) in
      let o : ◌≡◌ {A = ℕ} 0 1 = cc in
      omega arith

  pub pair_elsewhere : false ≡ one_of_three p q u (two_fits_lem n r s t f g)
  unfolding two_fits_lem
  pair_elsewhere = three_none p q u (two_fits_lem n r s t f g) λ h. not-true (two_fits_lem n r s t f g h) λ w.
      let a = and_both (is_edge_lem n r g) _ w in
      let b = and_both (is_edge_lem n s h) _ a.1 in
      let c = and_both (eqb (leads_to_lem r g) (leads_from_lem s h)) _ b.1 in
      elsewhere (leads_to_lem s h) (low_to s h) a.0 c.1

  pub triple_elsewhere : false ≡ one_of_three p q u (λ h. one_of_three p q u (three_fits_lem n r s v t f g h))
  unfolding three_fits_lem
  triple_elsewhere = three_none p q u (λ h. one_of_three p q u (three_fits_lem n r s v t f g h)) λ h. sym (three_none p q u (three_fits_lem n r s v t f g h) λ k.
      not-true (three_fits_lem n r s v t f g h k) λ w.
      let a = and_both (is_edge_lem n r g) _ w in
      let b = and_both (is_edge_lem n s h) _ a.1 in
      let c = and_both (is_edge_lem n v k) _ b.1 in
      let d = and_both (eqb (leads_to_lem r g) (leads_from_lem s h)) _ c.1 in
      let j = and_both (eqb (leads_to_lem s h) (leads_from_lem v k)) _ d.1 in
      elsewhere (leads_to_lem v k) (low_to v k) a.0 j.1)

-- ---- a path of three

pub by_none : (n : ℕ) (r s u v : Role) (f g h p q t : ℕ) {y : Bool} → y ≡ (is_edge_lem n s h && eqb (leads_to_lem r g) (leads_from_lem s h)) → y ≡ false → false ≡ one_of_three p q t (three_fits_lem n r s u v f g h)
unfolding three_fits_lem
by_none n r s u v f g h p q t e i =
    three_none p q t _ λ k. none (is_edge_lem n r g) (is_edge_lem n s h) (is_edge_lem n u k) (eqb (leads_to_lem r g) (leads_from_lem s h))
    (eqb (leads_to_lem s h) (leads_from_lem u k) && eqb f (edge v (leads_from_lem r g) (leads_to_lem u k))) (sym e ∙ i)
  where
    none : (a b c d z : Bool) → (b && d) ≡ false → (a && (b && (c && (d && z)))) ≡ false
    none false b c d z e = refl
    none true false c d z e = refl
    none true true false d z e = refl
    none true true true false z e = refl
    none true true true true z e = false_true (sym e)

-- ---- rule 6

module _ (p q t : ℕ) where
  and_three : (a : Bool) (f : ℕ → Bool) → (a && one_of_three p q t f) ≡ one_of_three p q t (λ x. a && f x)
  and_three true f = refl
  and_three false f = refl

  or_three : (a : Bool) (f : ℕ → Bool) → one_of_three p q t (λ x. a || f x) ≡ (a || one_of_three p q t f)
  or_three true f = refl
  or_three false f = refl

  three_and : (f : ℕ → Bool) (z : Bool) → one_of_three p q t (λ x. f x && z) ≡ (one_of_three p q t f && z)
  three_and f z = go (f p) (f q) (f t) z
    where
      go : (a b c z : Bool) → ((a && z) || ((b && z) || (c && z))) ≡ ((a || (b || c)) && z)
      go true b c true = refl
      go true true true false = refl
      go true true false false = refl
      go true false true false = refl
      go true false false false = refl
      go false true c true = refl
      go false true true false = refl
      go false true false false = refl
      go false false true true = refl
      go false false true false = refl
      go false false false z = refl

  three_or : (f g : ℕ → Bool) → one_of_three p q t (λ x. f x || g x) ≡ (one_of_three p q t f || one_of_three p q t g)
  three_or f g = go (f p) (f q) (f t) (g p) (g q) (g t)
    where
      go : (a b c d e f : Bool) → ((a || d) || ((b || e) || (c || f))) ≡ ((a || (b || c)) || (d || (e || f)))
      go true b c d e f = refl
      go false true c true e f = refl
      go false true c false e f = refl
      go false false true true e f = refl
      go false false true false true f = refl
      go false false true false false f = refl
      go false false false d e f = refl

  -- both ends, each by one of three
  pub both_ends : (f g : ℕ → Bool) → (one_of_three p q t f && one_of_three p q t g) ≡ one_of_three p q t (λ x. one_of_three p q t (λ y. f x && g y))
  both_ends f g = sym (three_same p q t _ (λ x. f x && one_of_three p q t g) (λ x. sym (and_three (f x) g)) ∙ three_and f (one_of_three p q t g))

  -- a type or an edge
  pub either_shared : (f : ℕ → Bool) (g : ℕ → ℕ → Bool)
      → one_of_three p q t (λ x. one_of_three p q t (λ y. f x || g x y)) ≡ (one_of_three p q t f || one_of_three p q t (λ x. one_of_three p q t (g x)))
  either_shared f g = three_same p q t _ _ (λ x. or_three (f x) (g x)) ∙ three_or f (λ x. one_of_three p q t (g x))
