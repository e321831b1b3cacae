-- The row of a clash by denial: a statement that denies what is known is found, and the row that names it and the row of what it denies is accepted.
use Prim.Native.Nat.{ℕ, zero, suc, ◌+◌, ◌<◌, ◌≤◌}
use native.Mathlib.Decide.{ℕ_discrete}
use native.Mathlib.Omega.{arith}
use mathlib.Core.Path.{◌≡◌, refl, ap, sym, ◌∙◌, subst}
use mathlib.Core.Bool.{Bool, true, false, not, ◌||◌, or-false}
use mathlib.Core.List.{List, [], ◌∷◌}
use mathlib.Core.Logic.{⊎_elim}
use lib.ListN.{length, get_or}
use lib.Dec.{eqb}
use borrow.Author.Tests.{eq-eqb, lt-ltb}
use Rattle.book.specs.Book.{Book}
use Rattle.book.specs.Role.{field_of_lem}
use Rattle.book.specs.Reader.{turn_at_lem}
use Rattle.book.specs.Within.{RoleWithin}
use Rattle.book.specs.declared.header.Counts.{Counts}
use Rattle.book.specs.declared.role.Role.{Role}
use Rattle.book.specs.declared.statement.Statement.{Statement}
use Rattle.book.specs.declared.statement.Axiom.{Axiom}
use Rattle.book.specs.declared.statement.Axiom.TheVariants.{SubClassOf, EquivalentClasses, DisjointClasses, InverseObjectProperties, SubObjectPropertyOf, TransitiveRole, SymmetricRole, FunctionalRole, InverseFunctionalRole, ObjectPropertyDomain, ObjectPropertyRange, SameIndividual, ClassAssertion, ObjectPropertyAssertion, DifferentIndividuals, NegativeObjectPropertyAssertion}
use Rattle.rows.specs.Row.{has}
use Rattle.rows.specs.Table.{leads, Can}
use Rattle.rules.specs.Fact.{edge, pair}
use Rattle.rules.specs.Rule.{Set, some}
use Rattle.rules.specs.ToldSame.{same}
use Rattle.rules.specs.Brought.{from}
use Rattle.rules.specs.Clash.{by_types, denied_by, denied}
use Rattle.rules.specs.Applied.{In}
use Rattle.rules.proofs.Tests.{false_true, and_intro, or_cases, or_left, or_right}
use Rattle.rules.proofs.Facts.{edge_lt}
use Rattle.tables.specs.Open.{book_of, size_of}
use Rattle.tables.proofs.Tables.{some_append}
use Rattle.said.proofs.enter.Says.{field_within}
use Rattle.saturation.proofs.Statements.{field_edge}
use Rattle.rounds.specs.View.{fact as fact_of}
use Rattle.rounds.proofs.Facts.{edge_leads}
use Rattle.derivation.specs.declared.row.Row.{Row}
use Rattle.derivation.specs.Rows.{none, Claim, clash, claim, says, says_row, named, earlier}
use Rattle.derivation.specs.Accept.{statements, member, denies_one, denies, by_clash_lem, follows, claim_at, accepts}
use Rattle.derivation.specs.Tables.{LabelsOf}
use Rattle.steps.specs.Links.{Place, RowPut}
use Rattle.steps.specs.Written.{class_row_lem, known_in, Listed}
use Rattle.steps.proofs.Known.{known_low, known_pair, together_in}
use Rattle.steps.proofs.Giving.{place_says, said, named_first, earlier_all, before_none}
use Rattle.steps.proofs.Putting.{listed_sized, listed_limits, listed_low}
use Rattle.steps.proofs.Rows.{before_row, named_same}
use Rattle.drawing.proofs.Paths.{role_can}
use Rattle.turns.specs.Turns.{Located}
use Rattle.listing.specs.declared.deny.Denier.{Denier}
use Rattle.listing.specs.Clashes.{ClashPut}
use Rattle.listing.specs.Denials.{Denial, DenialAt, Denies}
use Rattle.std.proofs.Common.{Option, None, Some}
use Rattle.std.proofs.lemmas.Option.{some_pair_parts}
use Rattle.listing.proofs.Clashes.{accepts_by}

-- a test that failed, or not
not-false : (x : Bool) → not x ≡ true → x ≡ false
not-false true f = false_true f
not-false false f = refl

not-true : (x : Bool) → not x ≡ false → x ≡ true
not-true true f = refl
not-true false f = false_true (sym f)

fails : {x y : Bool} → x ≡ y → not x ≡ true → y ≡ false
fails {x} e f = sym e ∙ not-false x f

pub passes : {x y : Bool} → x ≡ y → not x ≡ false → y ≡ true
passes {x} e f = sym e ∙ not-true x f

module _ {s : List ℕ} {h : Counts} {t : List ℕ} {n : ℕ} {l : List ℕ} (w : Listed s h t n l) where
  few : n ≤ none
  few = omega (arith, listed_low w)

  says_it : (f k : ℕ) → Place h l n f k → says (says_row h l k) f ≡ true
  says_it f k p = said (says (says_row h l k)) (subst (λ (c : Claim). In (says c) (says (says_row h l k))) (place_says few p) (λ g e. e))

  pub deny_nothing : (x : Axiom) → denied_by x ≡ [] → Denial s h t l n x None
  deny_nothing x e = ap (λ (fs : List ℕ). some fs (known_in h t)) e

  -- ---- two individuals

  pub pair_told : (i j : ℕ) {K : List ℕ} → LabelsOf (book_of s) h K → i < h.individuals → j < h.individuals → get_or K i 0 ≡ get_or K j 0 → Denial s h t l n (DifferentIndividuals i j) (Some none)
  pair_told i j {K} labels li lj e = (before_none n, or_left (same (book_of s) i j) _ (sym (labels.labels i j li lj) ∙ eq-eqb (get_or K i 0) (get_or K j 0) e))

  pub pair_quiet : (i j : ℕ) {x : Bool} → i < h.individuals → j < h.individuals → x ≡ has t (class_row_lem h i) j → not x ≡ true → Denial s h t l n (DifferentIndividuals i j) None
  pair_quiet i j li lj e f =
      let c : j < 512 = omega (arith, (listed_limits w).individuals_top) in
      or-false _ ∙ (known_pair h t i j c ∙ (together_in h t i j li lj ∙ fails e f))

  pub pair_up : (i j k : ℕ) → Place h l n (pair i j) k → Denial s h t l n (DifferentIndividuals i j) (Some k)
  pair_up i j k p = (before_row n k p.low, or_right (same (book_of s) i j) _ (or_left (says (says_row h l k) (pair i j)) _ (says_it (pair i j) k p)))

  pub pair_down : (i j k : ℕ) → Place h l n (pair j i) k → Denial s h t l n (DifferentIndividuals i j) (Some k)
  pair_down i j k p = (before_row n k p.low, or_right (same (book_of s) i j) _ (or_right (says (says_row h l k) (pair i j)) _ (says_it (pair j i) k p)))

  -- ---- an edge

  module _ (r : Role) (a b : ℕ) (v : RoleWithin h r) (i : a < h.individuals) (j : b < h.individuals) where
    pub edge_can : Can (size_of h) (field_of_lem r) a b
    edge_can = role_can (listed_sized w) (field_of_lem r) a b (omega (arith, field_within h r v)) i j

    edge_known : known_in h t (edge r a b) ≡ leads (size_of h) t (field_of_lem r) a b
    edge_known =
        let top = listed_limits w in
        let l = edge_lt r a b (omega (arith, top.roles_top)) (omega (arith, top.individuals_top)) (omega (arith, top.individuals_top)) in
        known_low h t (edge r a b) (omega arith) ∙ edge_leads w.table r a b (omega arith) i j

    pub edge_quiet : {x : Bool} → x ≡ leads (size_of h) t (field_of_lem r) a b → not x ≡ true → Denial s h t l n (NegativeObjectPropertyAssertion r a b) None
    edge_quiet e f = or-false _ ∙ (edge_known ∙ fails e f)

    pub edge_there : (k : ℕ) → Place h l n (fact_of (size_of h) (field_of_lem r) a b) k → Denial s h t l n (NegativeObjectPropertyAssertion r a b) (Some k)
    edge_there k p = (before_row n k p.low, subst (λ (f : ℕ → ℕ → ℕ). says (says_row h l k) (f a b) ≡ true) (field_edge h (listed_sized w) r v) (says_it (fact_of (size_of h) (field_of_lem r) a b) k p))

  -- ---- the statement at an offset

  pub denial_end : {u : Option (Statement × ℕ)} (at : ℕ) (k : Option ℕ) → u ≡ turn_at_lem s h at → u ≡ None → DenialAt s h t l n at k
  denial_end at k e g z next i = let o : ◌≡◌ {A = Option (Statement × ℕ)} (Some (z, next)) None = sym i ∙ (sym e ∙ g) in absurd (let q : ◌≡◌ {A = ℕ} 0 1 = cc in omega arith)

  pub denial_next : {u : Option (Statement × ℕ)} {y : Statement} {m : ℕ} (at : ℕ) (k : Option ℕ) → u ≡ turn_at_lem s h at → u ≡ Some (y, m) → Denial s h t l n y.body k → DenialAt s h t l n at k
  denial_next {u} {y} {m} at k e g d z next i =
      let o : Some (y, m) ≡ Some (z, next) = sym g ∙ (e ∙ i) in
      let q : y ≡ z = (some_pair_parts y z m next o).0 in
      subst (λ (v : Statement). Denial s h t l n v.body k) q d

-- ---- all statements

apart : {A : Type 0} {X : Type 0} {x : X} → ◌≡◌ {A = List X} [] (x ∷ []) → A
apart e = absurd (let o : ◌≡◌ {A = ℕ} 0 1 = cc in omega arith)

member_some : (f : Axiom → Bool) (l : List Axiom) (k : ℕ) (x : Axiom) → member l k ≡ x ∷ [] → f x ≡ true → some l f ≡ true
member_some f [] k x e t = apart e
member_some f (y ∷ l) zero x e t = let q : x ≡ y = cc in or_left (f y) _ (subst (λ z. f z ≡ true) q t)
member_some f (y ∷ l) (suc k) x e t = or_right (f y) _ (member_some f l k x e t)

none_denied : (S : Set) (l : List Axiom) → ((j : ℕ) → j < length l → (x : Axiom) → member l j ≡ x ∷ [] → some (denied_by x) S ≡ false) → some (from l denied_by) S ≡ false
none_denied S [] g = refl
none_denied S (y ∷ l) g = some_append (denied_by y) (from l denied_by) S ∙ rw (g 0 (omega arith) y refl) (none_denied S l (λ j m x e. g (suc j) (omega arith) x e))

-- none of the first k statements denies what is known
abbrev pub Quiet : List ℕ → Counts → List ℕ → ℕ → Type 0
Quiet s h t k = (j : ℕ) → j < k → (x : Axiom) → member (statements (book_of s)) j ≡ x ∷ [] → some (denied_by x) (known_in h t) ≡ false

module _ (s : List ℕ) (h : Counts) (t : List ℕ) (n : ℕ) (l T : List ℕ) (loc : Located s h T) where
  module _ (k : ℕ) (below : k < h.statements) (r : Option ℕ) (law : DenialAt s h t l n (get_or T k 0) r) where
    here : (y : Statement) × (next : ℕ) × (turn_at_lem s h (get_or T k 0) ≡ Some (y, next)) × (member (statements (book_of s)) k ≡ y.body ∷ [])
    here = loc.starts k (omega (arith, loc.count))

    it_denies : Denial s h t l n here.0.body r
    it_denies = law here.0 here.1 here.2

    pub denier_found : {p : ℕ} → r ≡ Some p → Denies s h l n (record { statement = k; place = p })
    denier_found {p} e = let d = subst (Denial s h t l n here.0.body) e it_denies in record { it = here.0.body; there = here.3; below = below; lower = d.0; by_row = d.1 }

    pub quiet_more : r ≡ None → Quiet s h t k → Quiet s h t (k + 1)
    quiet_more e q j m y i = go (ℕ_discrete j k)
      where
        go : Dec (j ≡ k) → some (denied_by y) (known_in h t) ≡ false
        go (yes o) =
            let u : here.0.body ∷ [] ≡ y ∷ [] = sym here.3 ∙ subst (λ (p : ℕ). member (statements (book_of s)) p ≡ y ∷ []) o i in
            let v : here.0.body ≡ y = cc in
            subst (λ (z : Axiom). some (denied_by z) (known_in h t) ≡ false) v (subst (Denial s h t l n here.0.body) e it_denies)
        go (no o) = q j (omega arith) y i

  pub denier_none : (k : ℕ) {r : Denier} → h.statements ≤ k → Quiet s h t k → some (denied (book_of s)) (known_in h t) ≡ true → Denies s h l n r
  denier_none k m q e = false_true (sym (none_denied (known_in h t) (statements (book_of s)) (λ j i x o. q j (omega (arith, loc.count)) x o)) ∙ e)

-- ---- the row

denies_up : (B : Book) (P Q : Set) → In P Q → (x : Axiom) → denies_one B P x ≡ true → denies_one B Q x ≡ true
denies_up B P Q f (SubClassOf c d) e = false_true e
denies_up B P Q f (EquivalentClasses c d) e = false_true e
denies_up B P Q f (DisjointClasses c d) e = false_true e
denies_up B P Q f (InverseObjectProperties r s) e = false_true e
denies_up B P Q f (SubObjectPropertyOf p t) e = false_true e
denies_up B P Q f (TransitiveRole r) e = false_true e
denies_up B P Q f (SymmetricRole r) e = false_true e
denies_up B P Q f (FunctionalRole r) e = false_true e
denies_up B P Q f (InverseFunctionalRole r) e = false_true e
denies_up B P Q f (ObjectPropertyDomain r c) e = false_true e
denies_up B P Q f (ObjectPropertyRange r c) e = false_true e
denies_up B P Q f (SameIndividual a b) e = false_true e
denies_up B P Q f (ClassAssertion c i) e = false_true e
denies_up B P Q f (ObjectPropertyAssertion r a b) e = false_true e
denies_up B P Q f (DifferentIndividuals a b) e =
    ⊎_elim (λ o. or_left (same B a b) _ o)
    (λ o. or_right (same B a b) _ (⊎_elim (λ u. or_left (Q (pair a b)) _ (f (pair a b) u)) (λ u. or_right (Q (pair a b)) _ (f (pair b a) u)) (or_cases (P (pair a b)) (P (pair b a)) o)))
    (or_cases (same B a b) (P (pair a b) || P (pair b a)) e)
denies_up B P Q f (NegativeObjectPropertyAssertion r a b) e = f (edge r a b) e

module _ {s : List ℕ} {h : Counts} {t : List ℕ} {n : ℕ} {l T : List ℕ} (w : Listed s h t n l) (loc : Located s h T) {r : Denier} (d : Denies s h l n r) where
  abbrev B : Book
  B = book_of s

  abbrev row : Row
  row = record { rule = 8; statement = r.statement; first = r.place; second = none; third = none; kind = 2; one = none; two = none; three = none }

  row_claims : (g : Counts) → claim g row ≡ clash
  unfolding claim
  row_claims g = refl

  lower : earlier n row ≡ true
  lower = earlier_all n row d.lower (before_none n) (before_none n)

  denied_named : denies (book_of s) (named h l row) ≡ true
  unfolding denies
  denied_named = member_some (denies_one (book_of s) (named h l row)) (statements (book_of s)) r.statement d.it d.there (denies_up (book_of s) (says (says_row h l r.place)) (named h l row) (named_first h l row) d.it d.by_row)

  by_clash_law : (Q : Set) → denies (book_of s) Q ≡ true → by_clash_lem (book_of s) row Q ≡ true
  unfolding by_clash_lem
  by_clash_law Q e =
      and_intro _ _ (eq-eqb 8 8 refl)
      (and_intro _ _ (or_right (eqb r.statement none) _ (lt-ltb r.statement (length (statements (book_of s))) (omega (arith, d.below, loc.count)))) (or_right (by_types (book_of s) Q) (denies (book_of s) Q) e))

  pub denial_put : {m : List ℕ} → RowPut l n row m → ClashPut (book_of s) l n m
  denial_put {m} p = record { len = p.len; old = p.old; accepted = yes_row; claims = is }
    where
      is : claim_at (book_of s) m n ≡ clash
      is = ap (claim (book_of s).counts) p.row ∙ row_claims (book_of s).counts

      follow : follows (book_of s) row (named (book_of s).counts m row) clash ≡ true
      follow = by_clash_law (named (book_of s).counts m row) (ap (λ (g : Counts). denies (book_of s) (named g m row)) w.counts ∙ (ap (denies (book_of s)) (named_same n l m p.old h row lower) ∙ denied_named))

      yes_row : accepts (book_of s) m n ≡ true
      yes_row = accepts_by (book_of s) m n row clash p.row is lower follow
