-- Plain books: the world that is read off the conclusions.
use Prim.Native.Nat.{ℕ, ◌/◌, ◌%◌, ◌<◌}
use native.Mathlib.Omega.{arith}
use mathlib.Core.Path.{◌≡◌, refl, ap, sym, ◌∙◌, subst}
use mathlib.Core.Bool.{Bool, true, false, ◌&&◌, ◌||◌}
use mathlib.Core.List.{[], ◌∷◌}
use native.Mathlib.Decide.{dec_lt}
use lib.Dec.{eqb, ltb}
use borrow.Author.Tests.{lt-ltb, ltb-true, eqb-true, eq-eqb}
use Rattle.book.specs.Read.{pick}
use Rattle.book.specs.declared.header.Counts.{Counts}
use Rattle.book.specs.declared.statement.SubRolePath.{SubRolePath}
use Rattle.book.specs.declared.statement.SubRolePath.TheVariants.{One, Two, Three}
use Rattle.book.specs.declared.statement.Axiom.{Axiom}
use Rattle.book.specs.declared.statement.Axiom.TheVariants.{SubClassOf, EquivalentClasses, DisjointClasses, InverseObjectProperties, SubObjectPropertyOf, TransitiveRole, SymmetricRole, FunctionalRole, InverseFunctionalRole, ObjectPropertyDomain, ObjectPropertyRange, SameIndividual, ClassAssertion, ObjectPropertyAssertion, DifferentIndividuals, NegativeObjectPropertyAssertion}
use Rattle.book.specs.Within.{Every, RoleWithin, Within, PathWithin}
use Rattle.book.specs.Tree.{Concept, Concepts}
use Rattle.book.specs.Book.{Book, axioms}
use Rattle.book.specs.Role.{flipped}
use Rattle.book.specs.declared.role.Role.{Role}
use Rattle.book.specs.declared.role.Role.TheVariants.{Named, Inverse}
use Rattle.rules.specs.Fact.{edge, type, pair, two}
use Rattle.rules.specs.Rule.{Set, Obeys, any, some}
use Rattle.rules.specs.Brought.{concept, Value, from, leaves, leaves_in, atomic_of, value_of, atomics, values}
use Rattle.rules.specs.Meaning.{told, bring, swap, under, join, one_class_lem, share, rule_of, rules, conclusions}
use Rattle.rules.specs.Clash.{disjoint_by, disjoint, type_clash, marker_clash, denied_by, denied, clashes}
use Rattle.rules.specs.World.{World, Thing, leads, Leads, Of, OfAll, Under, Apart, PathUnder, OneFiller, True, Fits, TypeTrue, EdgeTrue, PairTrue}
use Rattle.rules.specs.Plain.{IsAtomic, an_atomic, Simple, simple_atomic, simple_top, simple_value, Nested, nested_one, nested_and, AllNested, nested_none, nested_more, Right, Reach, PlainStatement, Plain}
use Rattle.rules.proofs.Tests.{false_true, or_none, any_none, some_none, and_intro, every_map, every_and, every_left, every_right, every_swap, from_every}
use Rattle.rules.proofs.Least.{obeys_every}
use Rattle.rules.proofs.Facts.{edge_named, edge_flipped, flipped_id}
use Rattle.rules.proofs.Reading.{values_have}
use Rattle.rules.proofs.Inside.{ConceptIn, listed_in, Inside}
use Rattle.rules.proofs.Conclusions.{conclusions_obey, conclusions_own, atomics_in}
use Rattle.rules.proofs.Tally.{own_of}
use Rattle.rules.proofs.Classes.{head, head_lt, class_self, class_turn, head_pair, head_same, same_head}

module _ (B : Book) (inside : Inside B) where
  abbrev S : Set
  S = conclusions B

  abbrev h : Counts
  h = B.counts

  abbrev n : ℕ
  n = B.counts.individuals

  -- the rules are obeyed: those of the statements, that of classes, and rule 6
  obeyed : Every (λ s. Obeys (rule_of B s) S) (axioms B)
  unfolding rules
  obeyed = obeys_every S (rule_of B) (axioms B) (conclusions_obey B inside).0

  classed : Obeys (one_class_lem n) S
  unfolding rules
  classed = (conclusions_obey B inside).1.0

  shared : (i j : ℕ) → i < n → j < n → S (pair i j) ≡ true → Obeys (share n h.classes h.roles i j) S
  unfolding rules
  shared i j k l e = (conclusions_obey B inside).1.1 i k j l e

  -- things: the heads of the classes, or 0 if there are no individuals; an individual's thing is its head
  unfoldable pub is_thing : ℕ → Bool
  is_thing x = eqb (head n S x) x

  -- a number that is no individual has the thing of 0
  unfoldable pub thing_of : ℕ → ℕ
  thing_of i = head n S (pick (ltb i n) i 0)

  pub thing_of_thing : (i : ℕ) → is_thing (thing_of i) ≡ true
  unfolding is_thing thing_of
  thing_of_thing i = eq-eqb (head n S (thing_of i)) (thing_of i) (go (ltb i n) refl (dec_lt 0 n))
    where
      go : (b : Bool) → ltb i n ≡ b → Dec (0 < n) → head n S (head n S (pick b i 0)) ≡ head n S (pick b i 0)
      go b e (no q) = omega (arith, head_lt n S (head n S (pick b i 0)), head_lt n S (pick b i 0))
      go true e (yes q) = let l = ltb-true i n e in sym (head_same n S classed i (head n S i) l (omega (arith, head_lt n S i)) (head_pair n S classed i l))
      go false e (yes q) = sym (head_same n S classed 0 (head n S 0) q (omega (arith, head_lt n S 0)) (head_pair n S classed 0 q))

  unfoldable pub canonical : World
  canonical = record {
    thing = is_thing;
    anyone = thing_of 0;
    anyone_thing = thing_of_thing 0;
    ind = thing_of;
    ind_thing = thing_of_thing;
    cls = λ c x. conclusions B (type x c);
    rol = λ r x y. conclusions B (edge (Named r) x y);
  }

  abbrev W : World
  W = canonical

  -- a role leads in the world where its edge is concluded
  leads_is : (ρ : Role) (x y : ℕ) → leads W ρ x y ≡ S (edge ρ x y)
  unfolding leads canonical edge
  leads_is (Named r) x y = refl
  leads_is (Inverse r) x y = refl

  pub to_edge : (ρ : Role) (x y : ℕ) → Leads W ρ x y → S (edge ρ x y) ≡ true
  to_edge ρ x y l = sym (leads_is ρ x y) ∙ l

  of_edge : (ρ : Role) (x y : ℕ) → S (edge ρ x y) ≡ true → Leads W ρ x y
  of_edge ρ x y l = leads_is ρ x y ∙ l

  pub to_type : (x c : ℕ) → W.cls c x ≡ true → S (type x c) ≡ true
  unfolding canonical
  to_type x c e = e

  of_type : (x c : ℕ) → S (type x c) ≡ true → W.cls c x ≡ true
  unfolding canonical
  of_type x c e = e

  pub thing_head : (x : ℕ) → Thing W x → head n S x ≡ x
  unfolding canonical is_thing
  thing_head x t = eqb-true (head n S x) x t

  thing_lt : (x : ℕ) → Thing W x → x < 512
  thing_lt x t = omega (arith, head_lt n S x, thing_head x t, inside.limits.individuals_top)

  -- what is concluded is of the book's own individuals
  type_own : (x c : ℕ) → Thing W x → c < h.classes → S (type x c) ≡ true → x < n
  unfolding type
  type_own x c t l e =
      let w = (own_of h inside.limits (type x c) (conclusions_own B inside (type x c) e)).1 (omega arith) (omega (arith, thing_lt x t, inside.limits.classes_top)) in
      omega (arith, w.0, inside.limits.classes_top)

  named_own : (r x y : ℕ) → r < h.roles → x < 512 → y < 512 → S (edge (Named r) x y) ≡ true → (x < n) × (y < n)
  named_own r x y l i j e =
      let q = edge_named r x y in
      let k : edge (Named r) x y < 16777216 = omega (arith, inside.limits.roles_top) in
      let w = (own_of h inside.limits (edge (Named r) x y) (conclusions_own B inside (edge (Named r) x y) e)).0 k in
      let a : edge (Named r) x y / 512 % 512 ≡ x = omega arith in
      let b : edge (Named r) x y % 512 ≡ y = omega arith in
      (omega (arith, w.1), omega (arith, w.2))

  pub edge_own : (ρ : Role) (x y : ℕ) → RoleWithin h ρ → Thing W x → Thing W y → S (edge ρ x y) ≡ true → (x < n) × (y < n)
  edge_own (Named r) x y l tx ty e = named_own r x y l (thing_lt x tx) (thing_lt y ty) e
  edge_own (Inverse r) x y l tx ty e =
      let w = named_own r y x l (thing_lt y ty) (thing_lt x tx) (subst (λ (k : ℕ). S k ≡ true) (edge_flipped (Named r) x y) e) in
      (w.1, w.0)

  type_to : (i j c : ℕ) → i < n → j < n → c < h.classes → S (pair i j) ≡ true → S (type i c) ≡ true → S (type j c) ≡ true
  type_to i j c k l m e = (shared i j k l e).0 c m

  named_to : (r a a' b b' : ℕ) → r < h.roles → a < n → a' < n → b < n → b' < n → S (pair a a') ≡ true → S (pair b b') ≡ true → S (edge (Named r) a b) ≡ true → S (edge (Named r) a' b') ≡ true
  named_to r a a' b b' m i i' j j' e f q = ((shared b b' j j' f).1 r m a' i').1 (((shared a a' i i' e).1 r m b j).0 q)

  edge_to : (ρ : Role) (a a' b b' : ℕ) → RoleWithin h ρ → a < n → a' < n → b < n → b' < n → S (pair a a') ≡ true → S (pair b b') ≡ true → S (edge ρ a b) ≡ true → S (edge ρ a' b') ≡ true
  edge_to (Named r) a a' b b' m i i' j j' e f q = named_to r a a' b b' m i i' j j' e f q
  edge_to (Inverse r) a a' b b' m i i' j j' e f q =
      subst (λ (k : ℕ). S k ≡ true) (sym (edge_flipped (Named r) a' b'))
      (named_to r b b' a a' m j j' i i' f e (subst (λ (k : ℕ). S k ≡ true) (edge_flipped (Named r) a b) q))

  -- an individual's thing is in its class
  pub ind_is : (i : ℕ) → i < n → W.ind i ≡ head n S i
  unfolding canonical thing_of
  ind_is i l = ap (λ (b : Bool). head n S (pick b i 0)) (lt-ltb i n l)

  ind_lt : (i : ℕ) → i < n → W.ind i < n
  ind_lt i l = omega (arith, ind_is i l, head_lt n S i)

  to_ind : (i : ℕ) → i < n → S (pair i (W.ind i)) ≡ true
  to_ind i l = subst (λ (x : ℕ). S (pair i x) ≡ true) (sym (ind_is i l)) (head_pair n S classed i l)

  of_ind : (i : ℕ) → i < n → S (pair (W.ind i) i) ≡ true
  of_ind i l = class_turn n S classed i (W.ind i) l (ind_lt i l) (to_ind i l)

  -- what an expression asks of x is concluded
  abbrev AClass : ℕ → ℕ → Type 0
  AClass x c = S (type x c) ≡ true

  abbrev AValue : ℕ → Value → Type 0
  AValue x v = (RoleWithin h v.role × (v.to < n)) × (S (edge v.role x v.to) ≡ true)

  abbrev Classes : ℕ → Concept → Type 0
  Classes x e = Every (AClass x) (atomic_of e)

  abbrev Values : ℕ → Concept → Type 0
  Values x e = Every (AValue x) (value_of e)

  -- so x is of the expression, if each of its leaves is of a kind for which that is enough
  module _ (P Q : Concept → Type 0) (x : ℕ) (one : (e : Concept) → P e → Every Q (leaves e) → Of W e x) where
    mutual
      nested_of : (e : Concept) → Nested P e → Every Q (leaves e) → Of W e x
      nested_of e (nested_one s) q = one e s q
      nested_of e (nested_and {es = es} a) q = all_of es a q

      all_of : (es : Concepts) → AllNested P es → Every Q (leaves_in es) → OfAll W es x
      all_of es nested_none q = tt
      all_of es (nested_more {e = e} {es = fs} a r) q = (nested_of e a (every_left Q (leaves e) (leaves_in fs) q), all_of fs r (every_right Q (leaves e) (leaves_in fs) q))

  simple_of : (x : ℕ) → x < n → (e : Concept) → Simple e → Every (λ l. Classes x l × Values x l) (leaves e) → Of W e x
  simple_of x l e (simple_atomic c) q = of_type x c q.0.0.0
  simple_of x l e simple_top q = tt
  simple_of x l e (simple_value ρ b) q =
      let v = q.0.1.0 in
      λ none-there. none-there (W.ind b) (W.ind_thing b) (of_edge ρ x (W.ind b) (edge_to ρ x x b (W.ind b) v.0.0 l l v.0.1 (ind_lt b v.0.1) (class_self n S classed x l) (to_ind b v.0.1) v.1)) refl

  right_of : (x : ℕ) → x < n → (e : Concept) → Right e → Every (AClass x) (atomics e) → Every (AValue x) (values e) → Of W e x
  unfolding atomics values
  right_of x l e r p q = nested_of Simple (λ l. Classes x l × Values x l) x (simple_of x l) e r (every_and (Classes x) (Values x) (leaves e) (from_every (AClass x) atomic_of (leaves e) p) (from_every (AValue x) value_of (leaves e) q))

  atomic_of_lem : (x : ℕ) (e : Concept) → IsAtomic e → Every (Classes x) (leaves e) → Of W e x
  atomic_of_lem x e (an_atomic c) p = of_type x c p.0.0

  reach_of : (x : ℕ) (e : Concept) → Reach e → Every (AClass x) (atomics e) → Of W e x
  unfolding atomics
  reach_of x e r p = nested_of IsAtomic (Classes x) x (atomic_of_lem x) e r (from_every (AClass x) atomic_of (leaves e) p)

  values_in : (e : Concept) → ConceptIn h e → Every (λ (v : Value). RoleWithin h v.role × (v.to < n)) (values e)
  values_in e k = values_have (ConceptIn h) (listed_in h) (λ (v : Value). RoleWithin h v.role × (v.to < n)) (λ r b i. i) e k

  -- what a plain assertion tells is enough
  told_of : (x : ℕ) → x < n → (e : Concept) → Right e → ConceptIn h e → Obeys (told x e) S → Of W e x
  told_of x l e r k o = right_of x l e r (obeys_every S _ (atomics e) o.0) (every_and _ _ (values e) (values_in e k) (obeys_every S _ (values e) o.1))

  right_true : (c d : ℕ) → IsAtomic (concept B c) → Right (concept B d) → Obeys (bring n (concept B c) (concept B d)) S → Under W (concept B c) (concept B d)
  right_true c d a r o = go (concept B c) a (inside.concepts c) o
    where
      go : (l : Concept) → IsAtomic l → ConceptIn h l → Obeys (bring n l (concept B d)) S → Under W l (concept B d)
      go l (an_atomic u) k o x tx g = let e = to_type x u g in let i = type_own x u tx k e in told_of x i (concept B d) r (inside.concepts d) (o.0 x i e)

  atomic_right : (e : Concept) → IsAtomic e → Right e
  atomic_right e (an_atomic c) = nested_one (simple_atomic c)

  apart_true : (c d : ℕ) → IsAtomic (concept B c) → IsAtomic (concept B d) → ((x : ℕ) → x < n → Every (λ p. (S (type x p.one) && S (type x p.other)) ≡ false) (disjoint_by B (DisjointClasses c d))) → Apart W (concept B c) (concept B d)
  apart_true c d a b calm = go (concept B c) (concept B d) a b (inside.concepts c) calm
    where
      go : (l r : Concept) → IsAtomic l → IsAtomic r → ConceptIn h l → ((x : ℕ) → x < n → Every (λ p. (S (type x p.one) && S (type x p.other)) ≡ false) (from (atomic_of l) λ u. from (atomic_of r) λ v. two u v ∷ [])) → Apart W l r
      go l r (an_atomic u) (an_atomic v) k f x tx p q = false_true (sym (f x (type_own x u tx k (to_type x u p))).0 ∙ and_intro (S (type x u)) (S (type x v)) (to_type x u p) (to_type x v q))

  swap_true : (ρ σ : Role) → RoleWithin h ρ → Obeys (swap n ρ σ) S → (x y : ℕ) → Thing W x → Thing W y → Leads W ρ x y → Leads W σ y x
  swap_true ρ σ k o x y tx ty l = let e = to_edge ρ x y l in let i = edge_own ρ x y k tx ty e in of_edge σ y x (o x i.0 y i.1 e)

  path_true : (p : SubRolePath) (τ : Role) → PathWithin h p → Obeys (under n p τ) S → PathUnder W p τ
  path_true (One ρ) τ w o = λ x y tx ty l.
      let e = to_edge ρ x y l in
      let i = edge_own ρ x y w tx ty e in
      of_edge τ x y (o x i.0 y i.1 e)
  path_true (Two ρ σ) τ w o = λ x u y tx tu ty l m.
      let e = to_edge ρ x u l in
      let f = to_edge σ u y m in
      let i = edge_own ρ x u w.0 tx tu e in
      of_edge τ x y (o x i.0 u i.1 e y (edge_own σ u y w.1 tu ty f).1 f)
  path_true (Three ρ σ υ) τ w o = λ x u v y tx tu tv ty l m k.
      let e = to_edge ρ x u l in
      let f = to_edge σ u v m in
      let g = to_edge υ v y k in
      let i = edge_own ρ x u w.0 tx tu e in
      let j = edge_own υ v y w.2 tv ty g in
      of_edge τ x y (o x i.0 u i.1 e v j.0 f y j.1 g)

  -- two fillers of one subject are one thing
  filler_true : (ρ : Role) → RoleWithin h ρ → Obeys (join n ρ) S → OneFiller W ρ
  filler_true ρ w o x y z tx ty tz l m =
      let e = to_edge ρ x y l in
      let f = to_edge ρ x z m in
      let i = edge_own ρ x y w tx ty e in
      let j = edge_own ρ x z w tx tz f in
      sym (thing_head y ty) ∙ (head_same n S classed y z i.1 j.1 (o x i.0 y i.1 e z j.1 f) ∙ thing_head z tz)

  -- what is not concluded is false in the world
  pub type_false : (i c : ℕ) → i < n → c < h.classes → TypeTrue W i c → S (type i c) ≡ true
  type_false i c k l t = type_to (W.ind i) i c (ind_lt i k) k l (of_ind i k) (to_type (W.ind i) c t)

  pub leads_false : (ρ : Role) (a b : ℕ) → RoleWithin h ρ → a < n → b < n → Leads W ρ (W.ind a) (W.ind b) → S (edge ρ a b) ≡ true
  leads_false ρ a b w k l t = edge_to ρ (W.ind a) a (W.ind b) b w (ind_lt a k) k (ind_lt b l) l (of_ind a k) (of_ind b l) (to_edge ρ (W.ind a) (W.ind b) t)

  pub edge_false : (r a b : ℕ) → r < h.roles → a < n → b < n → EdgeTrue W r a b → S (edge (Named r) a b) ≡ true
  unfolding leads
  edge_false r a b w k l t = leads_false (Named r) a b w k l t

  pub pair_false : (i j : ℕ) → i < n → j < n → PairTrue W i j → S (pair i j) ≡ true
  pair_false i j k l t = same_head n S classed i j k l (sym (ind_is i k) ∙ (t ∙ ind_is j l))

  -- no disjoint pair stands, and nothing is denied
  abbrev Calm : Axiom → Type 0
  Calm s = ((x : ℕ) → x < n → Every (λ p. (S (type x p.one) && S (type x p.other)) ≡ false) (disjoint_by B s)) × Every (λ k. S k ≡ false) (denied_by s)

  plain_true : (s : Axiom) → PlainStatement B s → Within h s → Calm s → Obeys (rule_of B s) S → True W B s
  plain_true (SubClassOf c d) p w k o = right_true c d p.0 p.1 o
  plain_true (EquivalentClasses c d) p w k o = (right_true c d p.0 (atomic_right (concept B d) p.1) o.0, right_true d c p.1 (atomic_right (concept B c) p.0) o.1)
  plain_true (DisjointClasses c d) p w k o = apart_true c d p.0 p.1 k.0
  plain_true (InverseObjectProperties ρ σ) p w k o = λ x y tx ty. (swap_true ρ σ w.0 o.0 x y tx ty, swap_true σ ρ w.1 o.1 y x ty tx)
  plain_true (SubObjectPropertyOf q τ) p w k o = path_true q τ w.0 o
  plain_true (TransitiveRole ρ) p w k o = path_true (Two ρ ρ) ρ (w, w) o
  plain_true (SymmetricRole ρ) p w k o = λ x y tx ty. (swap_true ρ ρ w o x y tx ty, swap_true ρ ρ w o y x ty tx)
  plain_true (FunctionalRole ρ) p w k o = filler_true ρ w o
  plain_true (InverseFunctionalRole ρ) p w k o = filler_true (flipped ρ) (subst (λ (r : ℕ). r < h.roles) (sym (flipped_id ρ)) w) o
  plain_true (ObjectPropertyDomain ρ c) p w k o = λ x y tx ty l.
      let e = to_edge ρ x y l in
      let i = edge_own ρ x y w.0 tx ty e in
      reach_of x (concept B c) p (every_map _ (AClass x) (λ d f. f x i.0 y i.1 e) (atomics (concept B c)) (obeys_every S _ (atomics (concept B c)) o))
  plain_true (ObjectPropertyRange ρ c) p w k o = λ x y tx ty l.
      let e = to_edge ρ x y l in
      let i = edge_own ρ x y w.0 tx ty e in
      reach_of y (concept B c) p (every_map _ (AClass y) (λ d f. f x i.0 y i.1 e) (atomics (concept B c)) (obeys_every S _ (atomics (concept B c)) o))
  plain_true (SameIndividual a b) p w k o = ind_is a w.0 ∙ (head_same n S classed a b w.0 w.1 o ∙ sym (ind_is b w.1))
  plain_true (ClassAssertion c i) p w k o =
      right_of (W.ind i) (ind_lt i w.1) (concept B c) p
      (every_map _ (AClass (W.ind i)) (λ d f. type_to i (W.ind i) d w.1 (ind_lt i w.1) f.0 (to_ind i w.1) f.1) (atomics (concept B c)) (every_and _ _ (atomics (concept B c)) (atomics_in B inside c) (obeys_every S _ (atomics (concept B c)) o.0)))
      (every_map _ (AValue (W.ind i)) (λ v f. (f.0, edge_to v.role i (W.ind i) v.to v.to f.0.0 w.1 (ind_lt i w.1) f.0.1 f.0.1 (to_ind i w.1) (class_self n S classed v.to f.0.1) f.1)) (values (concept B c)) (every_and _ _ (values (concept B c)) (values_in (concept B c) (inside.concepts c)) (obeys_every S _ (values (concept B c)) o.1)))
  plain_true (ObjectPropertyAssertion ρ a b) p w k o =
      of_edge ρ (W.ind a) (W.ind b) (edge_to ρ a (W.ind a) b (W.ind b) w.0 w.1 (ind_lt a w.1) w.2 (ind_lt b w.2) (to_ind a w.1) (to_ind b w.2) o)
  plain_true (DifferentIndividuals a b) p w k o = λ e. false_true (sym k.1.0 ∙ pair_false a b w.0 w.1 e)
  plain_true (NegativeObjectPropertyAssertion ρ a b) p w k o = λ e. false_true (sym k.1.0 ∙ leads_false ρ a b w.0 w.1 w.2 e)

  -- without a clash the world fits
  calm_every : clashes B S ≡ false → Every Calm (axioms B)
  unfolding clashes type_clash
  calm_every q =
      let z = or_none (any n (λ x. type_clash B S x || marker_clash B S x)) (some (denied B) S) q in
      every_and _ _ (axioms B)
      (every_map (λ s. (k : (x : ℕ) × (x < n)) → Every (λ p. (S (type k.0 p.one) && S (type k.0 p.other)) ≡ false) (disjoint_by B s)) _ (λ s f x l. f (x, l)) (axioms B)
      (every_swap (λ (k : (x : ℕ) × (x < n)) s. Every (λ p. (S (type k.0 p.one) && S (type k.0 p.other)) ≡ false) (disjoint_by B s)) (axioms B)
      (λ k. from_every _ (disjoint_by B) (axioms B) (some_none _ (disjoint B) (or_none (type_clash B S k.0) (marker_clash B S k.0) (any_none n (λ x. type_clash B S x || marker_clash B S x) z.0 k.0 k.1)).0))))
      (from_every (λ k. S k ≡ false) denied_by (axioms B) (some_none S (denied B) z.1))

  pub canonical_fits : Plain B → clashes B S ≡ false → Fits W B
  unfolding Fits Plain
  canonical_fits plain q =
      every_map (λ s. ((PlainStatement B s × Within h s) × Calm s) × Obeys (rule_of B s) S) (True W B) (λ s k. plain_true s k.0.0.0 k.0.0.1 k.0.1 k.1) (axioms B)
      (every_and _ _ (axioms B) (every_and _ _ (axioms B) (every_and (PlainStatement B) (Within h) (axioms B) plain inside.statements) (calm_every q)) obeyed)
