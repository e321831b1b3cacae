-- What a row claims follows from the rows that it names exactly if the tests by numbers say so, for some order of the three facts.
use Prim.Native.Nat.{ℕ, zero, suc, ◌<◌, ◌≤◌}
use native.Mathlib.Omega.{arith}
use mathlib.Core.Path.{◌≡◌, refl, ap, ◌∙◌, subst}
use mathlib.Core.Bool.{Bool, true, false}
use mathlib.Core.List.{List, [], ◌∷◌}
use mathlib.Core.Logic.{◌⊎◌, inl, inr, ⊎_elim}
use lib.ListN.{length}
use lib.Dec.{eqb, ltb}
use borrow.Author.Tests.{eqb-true, eq-eqb, ltb-true, lt-ltb}
use Rattle.book.specs.Header.{Limits}
use Rattle.book.specs.Role.{flipped}
use Rattle.book.specs.Tree.{Concept}
use Rattle.book.specs.Book.{Book}
use Rattle.book.specs.Within.{Every, Within}
use Rattle.book.specs.declared.role.Role.{Role}
use Rattle.book.specs.declared.role.Role.TheVariants.{Named}
use Rattle.book.specs.declared.statement.SubRolePath.{SubRolePath}
use Rattle.book.specs.declared.statement.SubRolePath.TheVariants.{One, Two, Three}
use Rattle.book.specs.declared.statement.Axiom.{Axiom}
use Rattle.book.specs.declared.statement.Axiom.TheVariants.{SubClassOf, EquivalentClasses, DisjointClasses, InverseObjectProperties, SubObjectPropertyOf, TransitiveRole, SymmetricRole, FunctionalRole, InverseFunctionalRole, ObjectPropertyDomain, ObjectPropertyRange, SameIndividual, ClassAssertion, ObjectPropertyAssertion, DifferentIndividuals, NegativeObjectPropertyAssertion}
use Rattle.rules.specs.Fact.{edge, type, pair}
use Rattle.rules.specs.Rule.{Set, Rule, keep, when, each, given, every, yields}
use Rattle.rules.specs.Brought.{concept, atomic_of, atomics, values}
use Rattle.rules.specs.ToldSame.{same}
use Rattle.rules.specs.Meaning.{told, bring, under}
use Rattle.rules.proofs.Tests.{false_true, both_ways, or_cases, or_left, or_right, and_both, and_intro}
use Rattle.rules.proofs.Facts.{pair_lt}
use Rattle.derivation.specs.Rows.{none, Claim, fact, clash, nothing, says, one_of, fact_in}
use Rattle.derivation.specs.Accept.{join_other, use_of, across, sharing_both}
use Rattle.derivation.specs.Fits.{leads_from_lem, leads_to_lem, bearer, class_in_lem, is_edge_lem, fits, joins, changes, share_types_lem, role_in_lem, share_edges_lem, share_fits_lem, one_of_three, any_order}
use Rattle.derivation.proofs.Uses.{Uses, uses, used_by, uses_given, given_uses, Orders, orders_uses, Asks, uses_orders}
use Rattle.derivation.proofs.Fitting.{type_bearer, type_class, type_low, is_edge_law, edge_is, fits_orders, orders_fits}

-- ---- how many premises a statement asks for

asks_given : (f n : ℕ) (b : Bool) (R : Rule) → Asks f n R → Asks f n (given b R)
asks_given f n true R a = a
asks_given f zero false R a = λ k. tt
asks_given f (suc n) false R a = λ k. tt

asks_every : {A : Type 0} (f n : ℕ) (R : A → Rule) → ((x : A) → Asks f n (R x)) → (l : List A) → Asks f n (every l R)
asks_every f zero R a [] = λ k. tt
asks_every f (suc n) R a [] = λ k. tt
asks_every f zero R a (x ∷ l) = (a x, asks_every f zero R a l)
asks_every f (suc n) R a (x ∷ l) = (a x, asks_every f (suc n) R a l)

module _ (B : Book) (f : ℕ) where
  asks_told : (i : ℕ) (e : Concept) → Asks f 2 (told i e)
  asks_told i e = (asks_every f 2 _ (λ c. tt) (atomics e), asks_every f 2 _ (λ v. tt) (values e))

  asks_bring : (l e : Concept) → Asks f 3 (bring B.counts.individuals l e)
  asks_bring l e = asks_every f 3 _ (λ c a. asks_told a e) (atomic_of l)

  asks_path : (p : SubRolePath) (t : Role) → Asks f 3 (under B.counts.individuals p t)
  asks_path (One r) t = λ a b. tt
  asks_path (Two r s) t = λ a b c. tt
  asks_path (Three r s u) t = λ a b c d. tt

  asks_join : (r : Role) → Asks f 3 (join_other B.counts.individuals r)
  asks_join r = λ a b c. asks_given f 1 (ltb b c) _ tt

  asks_use : (x : Axiom) → Asks f 3 (use_of B x)
  asks_use (SubClassOf c d) = asks_bring (concept B c) (concept B d)
  asks_use (EquivalentClasses c d) = (asks_bring (concept B c) (concept B d), asks_bring (concept B d) (concept B c))
  asks_use (DisjointClasses c d) = λ k. tt
  asks_use (InverseObjectProperties r s) = ((λ a b. tt), λ a b. tt)
  asks_use (SubObjectPropertyOf p t) = asks_path p t
  asks_use (TransitiveRole r) = λ a b c. tt
  asks_use (SymmetricRole r) = λ a b. tt
  asks_use (FunctionalRole r) = asks_join r
  asks_use (InverseFunctionalRole r) = asks_join (flipped r)
  asks_use (ObjectPropertyDomain r c) = asks_every f 3 _ (λ d a b. tt) (atomics (concept B c))
  asks_use (ObjectPropertyRange r c) = asks_every f 3 _ (λ d a b. tt) (atomics (concept B c))
  asks_use (SameIndividual a b) = λ k. tt
  asks_use (ClassAssertion c i) = (asks_every f 3 _ (λ c. tt) (atomics (concept B c)), asks_every f 3 _ (λ v. tt) (values (concept B c)))
  asks_use (ObjectPropertyAssertion r a b) = tt
  asks_use (DifferentIndividuals a b) = λ k. tt
  asks_use (NegativeObjectPropertyAssertion r a b) = λ k. tt

-- ---- three facts

-- what is claimed is below `none`
abbrev pub Low : Claim → Type 0
Low (fact g) = g < 17170432
Low clash = Unit {0}
Low nothing = Unit {0}

says_taken : (c : Claim) (g : ℕ) → Low c → says c g ≡ true → (g < none) × (g ≡ fact_in c)
says_taken (fact x) g l e = let q = eqb-true g x e in (omega arith, q)
says_taken clash g l e = false_true e
says_taken nothing g l e = false_true e

taken_says : (c : Claim) (g : ℕ) → g ≡ fact_in c → g < none → says c g ≡ true
taken_says (fact x) g q l = eq-eqb g x q
taken_says clash g q l = absurd (omega arith)
taken_says nothing g q l = absurd (omega arith)

module _ (p q t : ℕ) where
  abbrev pub Slot : ℕ → Type 0
  Slot g = (g ≡ p) ⊎ ((g ≡ q) ⊎ (g ≡ t))

  pub slot_three : (test : ℕ → Bool) (g : ℕ) → Slot g → test g ≡ true → one_of_three p q t test ≡ true
  slot_three test g s e =
      ⊎_elim
      (λ i. or_left (test p) _ (subst (λ (x : ℕ). test x ≡ true) i e))
      (λ r. or_right (test p) _ (⊎_elim (λ i. or_left (test q) (test t) (subst (λ (x : ℕ). test x ≡ true) i e)) (λ i. or_right (test q) (test t) (subst (λ (x : ℕ). test x ≡ true) i e)) r))
      s

  pub three_slot : (test : ℕ → Bool) → one_of_three p q t test ≡ true → (g : ℕ) × Slot g × (test g ≡ true)
  three_slot test e =
      ⊎_elim
      (λ i. (p, inl refl, i))
      (λ r. ⊎_elim (λ i. (q, inr (inl refl), i)) (λ i. (t, inr (inr refl), i)) (or_cases (test q) (test t) r))
      (or_cases (test p) _ e)

module _ (a b c : Claim) (la : Low a) (lb : Low b) (lc : Low c) where
  abbrev pub P : Set
  P = one_of a b c

  abbrev pub slots : ℕ → Type 0
  slots = Slot (fact_in a) (fact_in b) (fact_in c)

  pub taken : (g : ℕ) → P g ≡ true → (g < none) × slots g
  taken g e =
      ⊎_elim
      (λ i. let r = says_taken a g la i in (r.0, inl r.1))
      (λ i. ⊎_elim (λ j. let r = says_taken b g lb j in (r.0, inr (inl r.1))) (λ j. let r = says_taken c g lc j in (r.0, inr (inr r.1))) (or_cases (says b g) (says c g) i))
      (or_cases (says a g) _ e)

  pub named : (g : ℕ) → slots g → g < none → P g ≡ true
  named g s l =
      ⊎_elim
      (λ i. or_left (says a g) _ (taken_says a g i l))
      (λ r. or_right (says a g) _ (⊎_elim (λ i. or_left (says b g) (says c g) (taken_says b g i l)) (λ i. or_right (says b g) (says c g) (taken_says c g i l)) r))
      s

  module _ (B : Book) (top : Limits B.counts) (low : (x : ℕ) → Every (λ y. y < 256) (atomic_of (concept B x))) (f : ℕ) where
    -- ---- a statement

    abbrev order_three : Axiom → ℕ → ℕ → Bool
    order_three x g h = one_of_three (fact_in a) (fact_in b) (fact_in c) λ k. fits B x f g h k

    abbrev order_two : Axiom → ℕ → Bool
    order_two x g = one_of_three (fact_in a) (fact_in b) (fact_in c) λ h. order_three x g h

    pub statement_tried : (x : Axiom) → Within B.counts x → yields (use_of B x) P f ≡ any_order (fact_in a) (fact_in b) (fact_in c) (fits B x f)
    unfolding any_order
    statement_tried x w = both_ways _ _ into back
      where
        order : (gs : List ℕ) → length gs ≡ 3 → Every slots gs → Orders f (use_of B x) gs → any_order (fact_in a) (fact_in b) (fact_in c) (fits B x f) ≡ true
        order [] e s o = absurd (omega arith)
        order (g ∷ []) e s o = absurd (omega arith)
        order (g ∷ h ∷ []) e s o = absurd (omega arith)
        order (g ∷ h ∷ k ∷ []) e s o =
            slot_three (fact_in a) (fact_in b) (fact_in c) (order_two x) g s.0
            (slot_three (fact_in a) (fact_in b) (fact_in c) (order_three x g) h s.1.0
            (slot_three (fact_in a) (fact_in b) (fact_in c) (λ z. fits B x f g h z) k s.1.1.0 (orders_fits B top low f g h k x o)))
        order (g ∷ h ∷ k ∷ j ∷ gs) e s o = absurd (omega arith)

        into : yields (use_of B x) P f ≡ true → any_order (fact_in a) (fact_in b) (fact_in c) (fits B x f) ≡ true
        into e =
            let r = uses_orders f P (fact_in a) slots (inl refl) taken 3 (use_of B x) (asks_use B f x) (uses P f (use_of B x) e) in
            order r.0 r.1 r.2 r.3

        back : any_order (fact_in a) (fact_in b) (fact_in c) (fits B x f) ≡ true → yields (use_of B x) P f ≡ true
        back e =
            let g = three_slot (fact_in a) (fact_in b) (fact_in c) (order_two x) e in
            let h = three_slot (fact_in a) (fact_in b) (fact_in c) (order_three x g.0) g.2 in
            let k = three_slot (fact_in a) (fact_in b) (fact_in c) (fits B x f g.0 h.0) h.2 in
            used_by P f (use_of B x) (orders_uses f P (use_of B x) (g.0 ∷ h.0 ∷ k.0 ∷ []) (named g.0 g.1, (named h.0 h.1, (named k.0 k.1, tt))) (fits_orders B top low f g.0 h.0 k.0 x w k.2))

    -- ---- rule 6

    abbrev n : ℕ
    n = B.counts.individuals

    -- a change of an end, and what is named for it
    abbrev Changed : ℕ → ℕ → Type 0
    Changed i j = (x : ℕ) × slots x × (changes B i j x ≡ true)

    across_uses : (i j : ℕ) (R : Rule) → Uses P f (across B i j R) → Changed i j × Uses P f R
    unfolding changes
    across_uses i j R u = ⊎_elim told (λ v. ⊎_elim one other v) u
      where
        told : Uses P f (given (same B i j) R) → Changed i j × Uses P f R
        told v = let w = uses_given P f (same B i j) R v in ((fact_in a, inl refl, or_left (same B i j) _ w.0), w.1)

        one : Uses P f (when (pair i j) R) → Changed i j × Uses P f R
        one v = (
          (
            pair i j,
            (taken (pair i j) v.0).1,
            or_right (same B i j) _ (or_left (eqb (pair i j) (pair i j)) _ (eq-eqb (pair i j) (pair i j) refl)),
          ),
          v.1,
        )

        other : Uses P f (when (pair j i) R) → Changed i j × Uses P f R
        other v = (
          (
            pair j i,
            (taken (pair j i) v.0).1,
            or_right (same B i j) _ (or_right (eqb (pair j i) (pair i j)) _ (eq-eqb (pair j i) (pair j i) refl)),
          ),
          v.1,
        )

    uses_across : (i j x : ℕ) (R : Rule) → i < n → j < n → slots x → changes B i j x ≡ true → Uses P f R → Uses P f (across B i j R)
    unfolding changes
    uses_across i j x R l m s e u =
        ⊎_elim
        (λ q. inl (given_uses P f (same B i j) R q u))
        (λ q. inr (⊎_elim
        (λ k. inl (known (pair i j) (eqb-true x (pair i j) k) (pair_lt i j (omega arith) (omega arith)), u))
        (λ k. inr (known (pair j i) (eqb-true x (pair j i) k) (pair_lt j i (omega arith) (omega arith)), u))
        (or_cases (eqb x (pair i j)) (eqb x (pair j i)) q)))
        (or_cases (same B i j) (joins i j x) e)
      where
        few : n ≤ 512
        few = top.individuals_top

        known : (g : ℕ) → x ≡ g → g < 17170432 → P g ≡ true
        known g q k = named g (subst slots q s) (omega arith)

    share_types_law : (g i j d x : ℕ) → i < n → j < n → d < B.counts.classes → g ≡ type i d → f ≡ type j d → changes B i j x ≡ true
        → share_types_lem B.counts B f g x ≡ true
    unfolding share_types_lem
    share_types_law g i j d x l m o q r s =
        let top-i = top.individuals_top in
        let top-c = top.classes_top in
        let u : bearer g ≡ i = ap bearer q ∙ type_bearer i d (omega arith) (omega arith) in
        let v : bearer f ≡ j = ap bearer r ∙ type_bearer j d (omega arith) (omega arith) in
        let z : class_in_lem g ≡ d = ap class_in_lem q ∙ type_class i d (omega arith) in
        rw (u, v, z) (and_intro _ _ (lt-ltb i _ l) (and_intro _ _ (lt-ltb j _ m) (and_intro _ _ (lt-ltb d _ o)
        (and_intro _ _ (eq-eqb g (type i d) q) (and_intro _ _ (eq-eqb f (type j d) r) s)))))

    edge_role : (r i j : ℕ) → i < 512 → j < 512 → role_in_lem (edge (Named r) i j) ≡ r
    unfolding edge
    edge_role r i j l m = omega arith

    share_edges_law : (g i j d e r x y : ℕ) → i < n → j < n → d < n → e < n → r < B.counts.roles → g ≡ edge (Named r) i d → f ≡ edge (Named r) j e
        → changes B i j x ≡ true → changes B d e y ≡ true → share_edges_lem B.counts B f g x y ≡ true
    unfolding share_edges_lem
    share_edges_law g i j d e r x y li lj ld le lr q s u v =
        let top-i = top.individuals_top in
        let w : role_in_lem g ≡ r = ap role_in_lem q ∙ edge_role r i d (omega arith) (omega arith) in
        let c = edge_is n top-i (Named r) g i d li ld q in
        let z = edge_is n top-i (Named r) f j e lj le s in
        rw (w, c.1, c.2, z.1, z.2) (and_intro _ _ (lt-ltb r _ lr) (and_intro _ _ c.0 (and_intro _ _ z.0 (and_intro _ _ u v))))

    -- what is used: the fact, and what is named for each end
    abbrev Shared : Type 0
    Shared = (g : ℕ) × (x : ℕ) × (y : ℕ) × slots g × slots x × slots y × (share_fits_lem B.counts B f g x y ≡ true)

    abbrev of_types : Rule
    of_types = each n λ i. each n λ j. across B i j (each B.counts.classes λ c. when (type i c) (keep (type j c)))

    abbrev of_edges : Rule
    of_edges =
        each n λ i. each n λ j. across B i j (each n λ a. each n λ b. across B a b
        (each B.counts.roles λ r. when (edge (Named r) i a) (keep (edge (Named r) j b))))

    types_shared : Uses P f of_types → Shared
    unfolding share_fits_lem
    types_shared (i, l, (j, m, u)) =
        let w = across_uses i j (each B.counts.classes λ c. when (type i c) (keep (type j c))) u in
        let x = w.0 in
        let d = w.1 in
        let t = d.2 in (
          type i d.0,
          x.0,
          fact_in a,
          (taken (type i d.0) t.0).1,
          x.1,
          inl refl,
          or_left (share_types_lem B.counts B f (type i d.0) x.0) _ (share_types_law (type i d.0) i j d.0 x.0 l m d.1 refl t.1 x.2),
        )

    edges_shared : Uses P f of_edges → Shared
    unfolding share_fits_lem
    edges_shared (i, l, (j, m, u)) =
        let w = across_uses i j (each n λ a. each n λ b. across B a b (each B.counts.roles λ r. when (edge (Named r) i a) (keep (edge (Named r) j b)))) u in
        let x = w.0 in
        let d = w.1 in
        let e = d.2 in
        let z = across_uses d.0 e.0 (each B.counts.roles λ r. when (edge (Named r) i d.0) (keep (edge (Named r) j e.0))) e.2 in
        let y = z.0 in
        let r = z.1 in
        let t = r.2 in
        let g = edge (Named r.0) i d.0 in (
          g,
          x.0,
          y.0,
          (taken g t.0).1,
          x.1,
          y.1,
          or_right (share_types_lem B.counts B f g x.0) (share_edges_lem B.counts B f g x.0 y.0)
              (share_edges_law g i j d.0 e.0 r.0 x.0 y.0 l m d.1 e.1 r.1 refl t.1 x.2 y.2),
        )

    shared_types : (g x : ℕ) → slots g → slots x → share_types_lem B.counts B f g x ≡ true → Uses P f of_types
    unfolding share_types_lem
    shared_types g x sg sx u =
        let i = and_both (ltb (bearer g) n) _ u in
        let j = and_both (ltb (bearer f) n) _ i.1 in
        let k = and_both (ltb (class_in_lem g) B.counts.classes) _ j.1 in
        let m = and_both (eqb g (type (bearer g) (class_in_lem g))) _ k.1 in
        let o = and_both (eqb f (type (bearer f) (class_in_lem g))) _ m.1 in
        let l = ltb-true (bearer g) n i.0 in
        let v = ltb-true (bearer f) n j.0 in
        let z = ltb-true (class_in_lem g) B.counts.classes k.0 in
        let s = eqb-true g _ m.0 in
        let y = type_low (bearer g) (class_in_lem g) (omega (arith, top.individuals_top)) (omega (arith, top.classes_top)) in
        let p : P (type (bearer g) (class_in_lem g)) ≡ true = subst (λ (w : ℕ). P w ≡ true) s (named g sg (omega arith)) in
        (bearer g, l, (bearer f, v, uses_across (bearer g) (bearer f) x _ l v sx o.1 (class_in_lem g, z, (p, eqb-true f _ o.0))))

    shared_edges : (g x y : ℕ) → slots g → slots x → slots y → share_edges_lem B.counts B f g x y ≡ true → Uses P f of_edges
    unfolding share_edges_lem
    shared_edges g x y sg sx sy u =
        let i = and_both (ltb (role_in_lem g) B.counts.roles) _ u in
        let j = and_both (is_edge_lem n (Named (role_in_lem g)) g) _ i.1 in
        let k = and_both (is_edge_lem n (Named (role_in_lem g)) f) _ j.1 in
        let m = and_both (changes B (leads_from_lem (Named 0) g) (leads_from_lem (Named 0) f) x) _ k.1 in
        let r = ltb-true (role_in_lem g) B.counts.roles i.0 in
        let v = is_edge_law n top.individuals_top (Named (role_in_lem g)) g (omega (arith, top.roles_top)) j.0 in
        let w = is_edge_law n top.individuals_top (Named (role_in_lem g)) f (omega (arith, top.roles_top)) k.0 in
        let p : P (edge (Named (role_in_lem g)) (leads_from_lem (Named 0) g) (leads_to_lem (Named 0) g)) ≡ true = subst (λ (z : ℕ). P z ≡ true) v.is (named g sg v.low) in (
          leads_from_lem (Named 0) g,
          v.from_low,
          (
            leads_from_lem (Named 0) f,
            w.from_low,
            uses_across (leads_from_lem (Named 0) g) (leads_from_lem (Named 0) f) x _ v.from_low w.from_low sx m.0 (
              leads_to_lem (Named 0) g,
              v.to_low,
              (
                leads_to_lem (Named 0) f,
                w.to_low,
                uses_across (leads_to_lem (Named 0) g) (leads_to_lem (Named 0) f) y _ v.to_low w.to_low sy m.1 (role_in_lem g, r, (p, w.is)),
              ),
            ),
          ),
        )

    abbrev share_third : ℕ → ℕ → Bool
    share_third g x = one_of_three (fact_in a) (fact_in b) (fact_in c) λ y. share_fits_lem B.counts B f g x y

    abbrev share_second : ℕ → Bool
    share_second g = one_of_three (fact_in a) (fact_in b) (fact_in c) λ x. share_third g x

    pub sharing_tried : yields (sharing_both B) P f ≡ any_order (fact_in a) (fact_in b) (fact_in c) (share_fits_lem B.counts B f)
    unfolding any_order share_fits_lem
    sharing_tried = both_ways _ _ into back
      where
        into : yields (sharing_both B) P f ≡ true → any_order (fact_in a) (fact_in b) (fact_in c) (share_fits_lem B.counts B f) ≡ true
        into e =
            let s = ⊎_elim types_shared edges_shared (uses P f (sharing_both B) e) in
            slot_three (fact_in a) (fact_in b) (fact_in c) share_second s.0 s.3
            (slot_three (fact_in a) (fact_in b) (fact_in c) (share_third s.0) s.1 s.4
            (slot_three (fact_in a) (fact_in b) (fact_in c) (λ y. share_fits_lem B.counts B f s.0 s.1 y) s.2 s.5 s.6))

        back : any_order (fact_in a) (fact_in b) (fact_in c) (share_fits_lem B.counts B f) ≡ true → yields (sharing_both B) P f ≡ true
        back e =
            let g = three_slot (fact_in a) (fact_in b) (fact_in c) share_second e in
            let x = three_slot (fact_in a) (fact_in b) (fact_in c) (share_third g.0) g.2 in
            let y = three_slot (fact_in a) (fact_in b) (fact_in c) (share_fits_lem B.counts B f g.0 x.0) x.2 in
            used_by P f (sharing_both B) (⊎_elim
            (λ u. inl (shared_types g.0 x.0 g.1 x.1 u))
            (λ u. inr (shared_edges g.0 x.0 y.0 g.1 x.1 y.1 u))
            (or_cases (share_types_lem B.counts B f g.0 x.0) (share_edges_lem B.counts B f g.0 x.0 y.0) y.2))
