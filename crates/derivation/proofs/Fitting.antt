-- The tests by numbers are the uses of the rules, their premises taken in order.
use Prim.Native.Nat.{ℕ, ◌<◌, ◌≤◌}
use native.Mathlib.Omega.{arith}
use mathlib.Core.Path.{◌≡◌, refl, ap, sym, ◌∙◌, subst}
use mathlib.Core.Bool.{Bool, true, ◌&&◌}
use mathlib.Core.List.{List, [], ◌∷◌}
use mathlib.Core.Logic.{inl, inr, ⊎_elim}
use lib.Dec.{eqb, ltb}
use borrow.Author.Tests.{eqb-true, eq-eqb, ltb-true, lt-ltb}
use Rattle.book.specs.Header.{Limits}
use Rattle.book.specs.Role.{role_id, flipped}
use Rattle.book.specs.Tree.{Concept}
use Rattle.book.specs.Book.{Book}
use Rattle.book.specs.Within.{Every, RoleWithin, PathWithin, Within}
use Rattle.book.specs.declared.header.Counts.{Counts}
use Rattle.book.specs.declared.role.Role.{Role}
use Rattle.book.specs.declared.role.Role.TheVariants.{Named, Inverse}
use Rattle.book.specs.declared.statement.SubRolePath.{SubRolePath}
use Rattle.book.specs.declared.statement.SubRolePath.TheVariants.{One, Two, Three}
use Rattle.book.specs.declared.statement.Axiom.{Axiom}
use Rattle.book.specs.declared.statement.Axiom.TheVariants.{SubClassOf, EquivalentClasses, DisjointClasses, InverseObjectProperties, SubObjectPropertyOf, TransitiveRole, SymmetricRole, FunctionalRole, InverseFunctionalRole, ObjectPropertyDomain, ObjectPropertyRange, SameIndividual, ClassAssertion, ObjectPropertyAssertion, DifferentIndividuals, NegativeObjectPropertyAssertion}
use Rattle.rules.specs.Fact.{edge, type, pair}
use Rattle.rules.specs.Rule.{Rule, keep, when, each, every, some}
use Rattle.rules.specs.Brought.{concept, Value, atomic_of, atomics, values}
use Rattle.rules.specs.Meaning.{told, bring, swap, path1, path2, path3, under, domain, range}
use Rattle.rules.proofs.Tests.{false_true, or_cases, or_left, or_right, and_both, and_intro}
use Rattle.rules.proofs.Facts.{flipped_id}
use Rattle.tables.proofs.Members.{some_and}
use Rattle.derivation.specs.Rows.{none}
use Rattle.derivation.specs.Accept.{join_other, use_of}
use Rattle.derivation.specs.Fits.{leads_from_lem, leads_to_lem, bearer, class_in_lem, is_edge_lem, class_fits_lem, value_fits_lem, told_fits_lem, bring_fits_lem, swap_fits_lem, one_fits_lem, two_fits_lem, three_fits_lem, path_fits_lem, PathLow, domain_fits_lem, range_fits_lem, join_fits_lem, fits}
use Rattle.derivation.proofs.Uses.{Orders, orders_given, given_orders}

-- ---- numbers of facts

pub edge_from : (r : Role) (a b : ℕ) → a < 512 → b < 512 → leads_from_lem r (edge r a b) ≡ a
unfolding edge
edge_from (Named r) a b i j = omega arith
edge_from (Inverse r) a b i j = omega arith

pub edge_to : (r : Role) (a b : ℕ) → a < 512 → b < 512 → leads_to_lem r (edge r a b) ≡ b
unfolding edge
edge_to (Named r) a b i j = omega arith
edge_to (Inverse r) a b i j = omega arith

pub edge_low : (r : Role) (a b : ℕ) → role_id r < 64 → a < 512 → b < 512 → edge r a b < 16777216
unfolding edge
edge_low (Named r) a b l i j = omega arith
edge_low (Inverse r) a b l i j = omega arith

pub type_bearer : (i c : ℕ) → i < 512 → c < 256 → bearer (type i c) ≡ i
unfolding type
type_bearer i c l m = omega arith

pub type_class : (i c : ℕ) → c < 256 → class_in_lem (type i c) ≡ c
unfolding type
type_class i c m = omega arith

pub type_low : (i c : ℕ) → i < 512 → c < 256 → type i c < 16908288
unfolding type
type_low i c l m = omega arith

-- ---- a rule for each of a list

module _ {A : Type 0} (f : ℕ) (Q : A → Type 0) (R : A → Rule) (gs : List ℕ) (test : A → Bool) where
  pub orders_every : ((x : A) → Q x → Orders f (R x) gs → test x ≡ true) → (l : List A) → Every Q l → Orders f (every l R) gs → some l test ≡ true
  orders_every h [] q u = absurd (let a = u.1 in omega arith)
  orders_every h (x ∷ l) q u = ⊎_elim (λ v. or_left (test x) (some l test) (h x q.0 v)) (λ v. or_right (test x) (some l test) (orders_every h l q.1 v)) u

  pub every_orders : ((x : A) → Q x → test x ≡ true → Orders f (R x) gs) → (l : List A) → Every Q l → some l test ≡ true → Orders f (every l R) gs
  every_orders h [] q e = false_true e
  every_orders h (x ∷ l) q e = ⊎_elim (λ v. inl (h x q.0 v)) (λ v. inr (every_orders h l q.1 v)) (or_cases (test x) (some l test) e)

all_any : {A : Type 0} (l : List A) → Every (λ x. Unit {0}) l
all_any [] = tt
all_any (x ∷ l) = (tt, all_any l)

-- ---- premises that are edges

pub record IsEdge (n : ℕ) (r : Role) (g : ℕ) : Type 0 where
  pub from_low : leads_from_lem r g < n
  pub to_low : leads_to_lem r g < n
  pub is : g ≡ edge r (leads_from_lem r g) (leads_to_lem r g)
  pub low : g < none

module _ (n : ℕ) (few : n ≤ 512) where
  pub is_edge_law : (r : Role) (g : ℕ) → role_id r < 64 → is_edge_lem n r g ≡ true → IsEdge n r g
  unfolding is_edge_lem
  is_edge_law r g l e =
      let a = and_both (ltb (leads_from_lem r g) n) _ e in
      let b = and_both (ltb (leads_to_lem r g) n) _ a.1 in
      let i = ltb-true (leads_from_lem r g) n a.0 in
      let j = ltb-true (leads_to_lem r g) n b.0 in
      let q = eqb-true g (edge r (leads_from_lem r g) (leads_to_lem r g)) b.1 in
      let m = edge_low r (leads_from_lem r g) (leads_to_lem r g) l (omega arith) (omega arith) in
      record { from_low = i; to_low = j; is = q; low = omega arith }

  pub edge_is : (r : Role) (g a b : ℕ) → a < n → b < n → g ≡ edge r a b → (is_edge_lem n r g ≡ true) × (leads_from_lem r g ≡ a) × (leads_to_lem r g ≡ b)
  unfolding is_edge_lem
  edge_is r g a b i j q =
      let x : leads_from_lem r g ≡ a = ap (leads_from_lem r) q ∙ edge_from r a b (omega arith) (omega arith) in
      let y : leads_to_lem r g ≡ b = ap (leads_to_lem r) q ∙ edge_to r a b (omega arith) (omega arith) in
      (rw (x, y) (and_intro _ _ (lt-ltb a n i) (and_intro _ _ (lt-ltb b n j) (eq-eqb g (edge r a b) q))), x, y)

  -- ---- rules 3 and 4

  module _ (f g h k : ℕ) where
    abbrev gs : List ℕ
    gs = g ∷ h ∷ k ∷ []

    swap_orders : (r s : Role) → role_id r < 64 → swap_fits_lem n r s f g ≡ true → Orders f (swap n r s) gs
    unfolding swap_fits_lem
    swap_orders r s l e =
        let a = and_both (is_edge_lem n r g) _ e in
        let i = is_edge_law r g l a.0 in
        (leads_from_lem r g, i.from_low, (leads_to_lem r g, i.to_low, (i.low, i.is, eqb-true f _ a.1)))

    orders_swap : (r s : Role) → Orders f (swap n r s) gs → swap_fits_lem n r s f g ≡ true
    unfolding swap_fits_lem
    orders_swap r s (a, i, (b, j, (low, q, e))) =
        let t = edge_is r g a b i j q in
        and_intro _ _ t.0 (rw (t.1, t.2) (eq-eqb f (edge s b a) e))

    one_orders : (r t : Role) → role_id r < 64 → one_fits_lem n r t f g ≡ true → Orders f (path1 n r t) gs
    unfolding one_fits_lem
    one_orders r t l e =
        let a = and_both (is_edge_lem n r g) _ e in
        let i = is_edge_law r g l a.0 in
        (leads_from_lem r g, i.from_low, (leads_to_lem r g, i.to_low, (i.low, i.is, eqb-true f _ a.1)))

    orders_one : (r t : Role) → Orders f (path1 n r t) gs → one_fits_lem n r t f g ≡ true
    unfolding one_fits_lem
    orders_one r t (a, i, (b, j, (low, q, e))) =
        let u = edge_is r g a b i j q in
        and_intro _ _ u.0 (rw (u.1, u.2) (eq-eqb f (edge t a b) e))

    two_orders : (r s t : Role) → role_id r < 64 → role_id s < 64 → two_fits_lem n r s t f g h ≡ true → Orders f (path2 n r s t) gs
    unfolding two_fits_lem
    two_orders r s t l m e =
        let a = and_both (is_edge_lem n r g) _ e in
        let b = and_both (is_edge_lem n s h) _ a.1 in
        let c = and_both (eqb (leads_to_lem r g) (leads_from_lem s h)) _ b.1 in
        let i = is_edge_law r g l a.0 in
        let j = is_edge_law s h m b.0 in
        let q = eqb-true (leads_to_lem r g) (leads_from_lem s h) c.0 in
        (leads_from_lem r g, i.from_low, (leads_to_lem r g, i.to_low, (i.low, i.is, (leads_to_lem s h, j.to_low, (j.low, subst (λ (x : ℕ). h ≡ edge s x (leads_to_lem s h)) (sym q) j.is, eqb-true f _ c.1)))))

    orders_two : (r s t : Role) → Orders f (path2 n r s t) gs → two_fits_lem n r s t f g h ≡ true
    unfolding two_fits_lem
    orders_two r s t (a, i, (b, j, (low, q, (c, m, (lower, p, e))))) =
        let u = edge_is r g a b i j q in
        let v = edge_is s h b c j m p in
        and_intro _ _ u.0 (and_intro _ _ v.0 (rw (u.1, u.2, v.1, v.2) (and_intro _ _ (eq-eqb b b refl) (eq-eqb f (edge t a c) e))))

    three_orders : (r s u t : Role) → role_id r < 64 → role_id s < 64 → role_id u < 64 → three_fits_lem n r s u t f g h k ≡ true → Orders f (path3 n r s u t) gs
    unfolding three_fits_lem
    three_orders r s u t l m o e =
        let a = and_both (is_edge_lem n r g) _ e in
        let b = and_both (is_edge_lem n s h) _ a.1 in
        let c = and_both (is_edge_lem n u k) _ b.1 in
        let d = and_both (eqb (leads_to_lem r g) (leads_from_lem s h)) _ c.1 in
        let x = and_both (eqb (leads_to_lem s h) (leads_from_lem u k)) _ d.1 in
        let i = is_edge_law r g l a.0 in
        let j = is_edge_law s h m b.0 in
        let w = is_edge_law u k o c.0 in
        let q = eqb-true (leads_to_lem r g) (leads_from_lem s h) d.0 in
        let p = eqb-true (leads_to_lem s h) (leads_from_lem u k) x.0 in (
          leads_from_lem r g,
          i.from_low,
          (
            leads_to_lem r g,
            i.to_low,
            (
              i.low,
              i.is,
              (
                leads_to_lem s h,
                j.to_low,
                (
                  j.low,
                  subst (λ (y : ℕ). h ≡ edge s y (leads_to_lem s h)) (sym q) j.is,
                  (leads_to_lem u k, w.to_low, (w.low, subst (λ (y : ℕ). k ≡ edge u y (leads_to_lem u k)) (sym p) w.is, eqb-true f _ x.1)),
                ),
              ),
            ),
          ),
        )

    orders_three : (r s u t : Role) → Orders f (path3 n r s u t) gs → three_fits_lem n r s u t f g h k ≡ true
    unfolding three_fits_lem
    orders_three r s u t (a, i, (b, j, (low, q, (c, m, (lower, p, (d, o, (lowest, w, e))))))) =
        let x = edge_is r g a b i j q in
        let y = edge_is s h b c j m p in
        let z = edge_is u k c d m o w in
        and_intro _ _ x.0 (and_intro _ _ y.0 (and_intro _ _ z.0 (rw (x.1, x.2, y.1, y.2, z.1, z.2) (and_intro _ _ (eq-eqb b b refl) (and_intro _ _ (eq-eqb c c refl) (eq-eqb f (edge t a d) e))))))

    -- ---- rule 5

    domain_orders : (r : Role) (e : Concept) → role_id r < 64 → domain_fits_lem n r e f g ≡ true → Orders f (domain n r e) gs
    unfolding domain_fits_lem class_fits_lem
    domain_orders r e l w =
        let a = and_both (is_edge_lem n r g) _ w in
        let i = is_edge_law r g l a.0 in
        every_orders f (λ c. Unit {0}) _ gs (λ c. eqb f (type (leads_from_lem r g) c)) (λ c q t. (leads_from_lem r g, i.from_low, (leads_to_lem r g, i.to_low, (i.low, i.is, eqb-true f _ t)))) (atomics e) (all_any (atomics e)) a.1

    orders_domain : (r : Role) (e : Concept) → Orders f (domain n r e) gs → domain_fits_lem n r e f g ≡ true
    unfolding domain_fits_lem class_fits_lem
    orders_domain r e u = sym (some_and (is_edge_lem n r g) (λ c. eqb f (type (leads_from_lem r g) c)) (atomics e)) ∙ orders_every f (λ c. Unit {0}) _ gs (λ c. is_edge_lem n r g && eqb f (type (leads_from_lem r g) c)) go (atomics e) (all_any (atomics e)) u
      where
        go : (c : ℕ) → Unit {0} → Orders f (each n λ a. each n λ b. when (edge r a b) (keep (type a c))) gs → (is_edge_lem n r g && eqb f (type (leads_from_lem r g) c)) ≡ true
        go c t (a, i, (b, j, (low, q, w))) = let x = edge_is r g a b i j q in and_intro _ _ x.0 (rw x.1 (eq-eqb f (type a c) w))

    range_orders : (r : Role) (e : Concept) → role_id r < 64 → range_fits_lem n r e f g ≡ true → Orders f (range n r e) gs
    unfolding range_fits_lem class_fits_lem
    range_orders r e l w =
        let a = and_both (is_edge_lem n r g) _ w in
        let i = is_edge_law r g l a.0 in
        every_orders f (λ c. Unit {0}) _ gs (λ c. eqb f (type (leads_to_lem r g) c)) (λ c q t. (leads_from_lem r g, i.from_low, (leads_to_lem r g, i.to_low, (i.low, i.is, eqb-true f _ t)))) (atomics e) (all_any (atomics e)) a.1

    orders_range : (r : Role) (e : Concept) → Orders f (range n r e) gs → range_fits_lem n r e f g ≡ true
    unfolding range_fits_lem class_fits_lem
    orders_range r e u = sym (some_and (is_edge_lem n r g) (λ c. eqb f (type (leads_to_lem r g) c)) (atomics e)) ∙ orders_every f (λ c. Unit {0}) _ gs (λ c. is_edge_lem n r g && eqb f (type (leads_to_lem r g) c)) go (atomics e) (all_any (atomics e)) u
      where
        go : (c : ℕ) → Unit {0} → Orders f (each n λ a. each n λ b. when (edge r a b) (keep (type b c))) gs → (is_edge_lem n r g && eqb f (type (leads_to_lem r g) c)) ≡ true
        go c t (a, i, (b, j, (low, q, w))) = let x = edge_is r g a b i j q in and_intro _ _ x.0 (rw x.2 (eq-eqb f (type b c) w))

    -- ---- rules 1 and 2

    told_orders : (e : Concept) (i : ℕ) (hs : List ℕ) → told_fits_lem e i f ≡ true → Orders f (told i e) hs
    unfolding told_fits_lem class_fits_lem value_fits_lem
    told_orders e i hs w =
        ⊎_elim
        (λ v. inl (every_orders f (λ c. Unit {0}) _ hs (λ c. eqb f (type i c)) (λ c q t. eqb-true f _ t) (atomics e) (all_any (atomics e)) v))
        (λ v. inr (every_orders f (λ c. Unit {0}) _ hs (λ (x : Value). eqb f (edge x.role i x.to)) (λ x q t. eqb-true f _ t) (values e) (all_any (values e)) v))
        (or_cases (some (atomics e) (λ c. eqb f (type i c))) _ w)

    orders_told : (e : Concept) (i : ℕ) (hs : List ℕ) → Orders f (told i e) hs → told_fits_lem e i f ≡ true
    unfolding told_fits_lem class_fits_lem value_fits_lem
    orders_told e i hs u =
        ⊎_elim
        (λ v. or_left _ _ (orders_every f (λ c. Unit {0}) _ hs (λ c. eqb f (type i c)) (λ c q t. eq-eqb f _ t) (atomics e) (all_any (atomics e)) v))
        (λ v. or_right (some (atomics e) (λ c. eqb f (type i c))) _ (orders_every f (λ c. Unit {0}) _ hs (λ (x : Value). eqb f (edge x.role i x.to)) (λ x q t. eq-eqb f _ t) (values e) (all_any (values e)) v))
        u

    bring_orders : (l e : Concept) → Every (λ c. c < 256) (atomic_of l) → bring_fits_lem n l e f g ≡ true → Orders f (bring n l e) gs
    unfolding bring_fits_lem
    bring_orders l e low w =
        let a = and_both (ltb (bearer g) n) _ w in
        let b = and_both (some (atomic_of l) (λ c. eqb g (type (bearer g) c))) _ a.1 in
        let i = ltb-true (bearer g) n a.0 in
        every_orders f (λ c. c < 256) _ gs (λ c. eqb g (type (bearer g) c)) (λ c q t. (bearer g, i, (under_none c q (eqb-true g _ t), eqb-true g _ t, told_orders e (bearer g) (h ∷ k ∷ []) b.1))) (atomic_of l) low b.0
      where
        under_none : (c : ℕ) → c < 256 → g ≡ type (bearer g) c → g < none
        under_none c q t = let m = type_low (bearer g) c (omega arith) q in omega arith

    orders_bring : (l e : Concept) → Every (λ c. c < 256) (atomic_of l) → Orders f (bring n l e) gs → bring_fits_lem n l e f g ≡ true
    unfolding bring_fits_lem
    orders_bring l e low u =
        let w = orders_every f (λ c. c < 256) _ gs (λ c. (ltb (bearer g) n && told_fits_lem e (bearer g) f) && eqb g (type (bearer g) c)) go (atomic_of l) low u in
        let a = and_both (ltb (bearer g) n && told_fits_lem e (bearer g) f) _ (sym (some_and (ltb (bearer g) n && told_fits_lem e (bearer g) f) (λ c. eqb g (type (bearer g) c)) (atomic_of l)) ∙ w) in
        let b = and_both (ltb (bearer g) n) _ a.0 in
        and_intro _ _ b.0 (and_intro _ _ a.1 b.1)
      where
        go : (c : ℕ) → c < 256 → Orders f (each n λ a. when (type a c) (told a e)) gs → ((ltb (bearer g) n && told_fits_lem e (bearer g) f) && eqb g (type (bearer g) c)) ≡ true
        go c q (a, i, (m, s, v)) =
            let x : bearer g ≡ a = ap bearer s ∙ type_bearer a c (omega arith) q in
            rw x (and_intro _ _ (and_intro _ _ (lt-ltb a n i) (orders_told e a (h ∷ k ∷ []) v)) (eq-eqb g (type a c) s))

    -- ---- rule 7

    join_orders : (r : Role) → role_id r < 64 → join_fits_lem n r f g h ≡ true → Orders f (join_other n r) gs
    unfolding join_fits_lem
    join_orders r l e =
        let a = and_both (is_edge_lem n r g) _ e in
        let b = and_both (is_edge_lem n r h) _ a.1 in
        let c = and_both (eqb (leads_from_lem r g) (leads_from_lem r h)) _ b.1 in
        let d = and_both (ltb (leads_to_lem r g) (leads_to_lem r h)) _ c.1 in
        let i = is_edge_law r g l a.0 in
        let j = is_edge_law r h l b.0 in
        let q = eqb-true (leads_from_lem r g) (leads_from_lem r h) c.0 in (
          leads_from_lem r g,
          i.from_low,
          (
            leads_to_lem r g,
            i.to_low,
            (
              i.low,
              i.is,
              (
                leads_to_lem r h,
                j.to_low,
                (
                  j.low,
                  subst (λ (x : ℕ). h ≡ edge r x (leads_to_lem r h)) (sym q) j.is,
                  given_orders f (ltb (leads_to_lem r g) (leads_to_lem r h)) _ (k ∷ []) d.0 (eqb-true f _ d.1),
                ),
              ),
            ),
          ),
        )

    orders_join : (r : Role) → Orders f (join_other n r) gs → join_fits_lem n r f g h ≡ true
    unfolding join_fits_lem
    orders_join r (a, i, (b, j, (low, q, (c, l, (lower, p, u))))) =
        let w = orders_given f (ltb b c) (keep (pair b c)) (k ∷ []) u in
        let x = edge_is r g a b i j q in
        let y = edge_is r h a c i l p in
        and_intro _ _ x.0 (and_intro _ _ y.0 (rw (x.1, x.2, y.1, y.2)
        (and_intro _ _ (eq-eqb a a refl) (and_intro _ _ w.0 (eq-eqb f (pair b c) w.1)))))

-- ---- a statement

pub path_low : (h : Counts) → h.roles ≤ 64 → (p : SubRolePath) → PathWithin h p → PathLow p
path_low h l (One r) w = omega (arith, w)
path_low h l (Two r s) w = (omega (arith, w.0), omega (arith, w.1))
path_low h l (Three r s u) w = (omega (arith, w.0), omega (arith, w.1), omega (arith, w.2))

module _ (B : Book) (top : Limits B.counts) (low : (c : ℕ) → Every (λ x. x < 256) (atomic_of (concept B c))) (f g h k : ℕ) where
  abbrev n : ℕ
  n = B.counts.individuals

  abbrev role_low : (r : Role) → RoleWithin B.counts r → role_id r < 64
  role_low r w = omega (arith, w, top.roles_top)

  path_orders : (p : SubRolePath) (t : Role) → PathWithin B.counts p → path_fits_lem n p t f g h k ≡ true → Orders f (under n p t) (g ∷ h ∷ k ∷ [])
  path_orders (One r) t w e = one_orders n top.individuals_top f g h k r t (role_low r w) e
  path_orders (Two r s) t w e = two_orders n top.individuals_top f g h k r s t (role_low r w.0) (role_low s w.1) e
  path_orders (Three r s u) t w e = three_orders n top.individuals_top f g h k r s u t (role_low r w.0) (role_low s w.1) (role_low u w.2) e

  orders_path : (p : SubRolePath) (t : Role) → Orders f (under n p t) (g ∷ h ∷ k ∷ []) → path_fits_lem n p t f g h k ≡ true
  orders_path (One r) t u = orders_one n top.individuals_top f g h k r t u
  orders_path (Two r s) t u = orders_two n top.individuals_top f g h k r s t u
  orders_path (Three r s v) t u = orders_three n top.individuals_top f g h k r s v t u

  pub fits_orders : (x : Axiom) → Within B.counts x → fits B x f g h k ≡ true → Orders f (use_of B x) (g ∷ h ∷ k ∷ [])
  unfolding fits
  fits_orders (SubClassOf c d) w e = bring_orders n top.individuals_top f g h k (concept B c) (concept B d) (low c) e
  fits_orders (EquivalentClasses c d) w e =
      ⊎_elim
      (λ v. inl (bring_orders n top.individuals_top f g h k (concept B c) (concept B d) (low c) v))
      (λ v. inr (bring_orders n top.individuals_top f g h k (concept B d) (concept B c) (low d) v))
      (or_cases (bring_fits_lem n (concept B c) (concept B d) f g) _ e)
  fits_orders (DisjointClasses c d) w e = false_true e
  fits_orders (InverseObjectProperties r s) w e =
      ⊎_elim
      (λ v. inl (swap_orders n top.individuals_top f g h k r s (role_low r w.0) v))
      (λ v. inr (swap_orders n top.individuals_top f g h k s r (role_low s w.1) v))
      (or_cases (swap_fits_lem n r s f g) _ e)
  fits_orders (SubObjectPropertyOf p t) w e = path_orders p t w.0 e
  fits_orders (TransitiveRole r) w e = two_orders n top.individuals_top f g h k r r r (role_low r w) (role_low r w) e
  fits_orders (SymmetricRole r) w e = swap_orders n top.individuals_top f g h k r r (role_low r w) e
  fits_orders (FunctionalRole r) w e = join_orders n top.individuals_top f g h k r (role_low r w) e
  fits_orders (InverseFunctionalRole r) w e = join_orders n top.individuals_top f g h k (flipped r) (rw (flipped_id r) (role_low r w)) e
  fits_orders (ObjectPropertyDomain r c) w e = domain_orders n top.individuals_top f g h k r (concept B c) (role_low r w.0) e
  fits_orders (ObjectPropertyRange r c) w e = range_orders n top.individuals_top f g h k r (concept B c) (role_low r w.0) e
  fits_orders (SameIndividual a b) w e = false_true e
  fits_orders (ClassAssertion c i) w e = told_orders n top.individuals_top f g h k (concept B c) i (g ∷ h ∷ k ∷ []) e
  fits_orders (ObjectPropertyAssertion r a b) w e = eqb-true f (edge r a b) e
  fits_orders (DifferentIndividuals a b) w e = false_true e
  fits_orders (NegativeObjectPropertyAssertion r a b) w e = false_true e

  pub orders_fits : (x : Axiom) → Orders f (use_of B x) (g ∷ h ∷ k ∷ []) → fits B x f g h k ≡ true
  unfolding fits
  orders_fits (SubClassOf c d) u = orders_bring n top.individuals_top f g h k (concept B c) (concept B d) (low c) u
  orders_fits (EquivalentClasses c d) u =
      ⊎_elim
      (λ v. or_left (bring_fits_lem n (concept B c) (concept B d) f g) _ (orders_bring n top.individuals_top f g h k (concept B c) (concept B d) (low c) v))
      (λ v. or_right (bring_fits_lem n (concept B c) (concept B d) f g) _ (orders_bring n top.individuals_top f g h k (concept B d) (concept B c) (low d) v))
      u
  orders_fits (DisjointClasses c d) u = absurd (let a = u.1 in omega arith)
  orders_fits (InverseObjectProperties r s) u =
      ⊎_elim
      (λ v. or_left (swap_fits_lem n r s f g) _ (orders_swap n top.individuals_top f g h k r s v))
      (λ v. or_right (swap_fits_lem n r s f g) _ (orders_swap n top.individuals_top f g h k s r v))
      u
  orders_fits (SubObjectPropertyOf p t) u = orders_path p t u
  orders_fits (TransitiveRole r) u = orders_two n top.individuals_top f g h k r r r u
  orders_fits (SymmetricRole r) u = orders_swap n top.individuals_top f g h k r r u
  orders_fits (FunctionalRole r) u = orders_join n top.individuals_top f g h k r u
  orders_fits (InverseFunctionalRole r) u = orders_join n top.individuals_top f g h k (flipped r) u
  orders_fits (ObjectPropertyDomain r c) u = orders_domain n top.individuals_top f g h k r (concept B c) u
  orders_fits (ObjectPropertyRange r c) u = orders_range n top.individuals_top f g h k r (concept B c) u
  orders_fits (SameIndividual a b) u = absurd (let a = u.1 in omega arith)
  orders_fits (ClassAssertion c i) u = orders_told n top.individuals_top f g h k (concept B c) i (g ∷ h ∷ k ∷ []) u
  orders_fits (ObjectPropertyAssertion r a b) u = eq-eqb f (edge r a b) u
  orders_fits (DifferentIndividuals a b) u = absurd (let a = u.1 in omega arith)
  orders_fits (NegativeObjectPropertyAssertion r a b) u = absurd (let a = u.1 in omega arith)
