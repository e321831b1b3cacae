-- What the statements deny, put down one by one, and looked up.
use Rattle.std.proofs.Common.{Option, None, Some}
use Rattle.std.proofs.lemmas.Option.{some_pair_parts}
use Prim.Native.Nat.{ℕ, zero, suc, ◌+◌, ◌/◌, ◌%◌, ◌<◌, ◌≤◌}
use native.Mathlib.Decide.{ℕ_discrete}
use native.Mathlib.Numerals.{add-one}
use native.Mathlib.Omega.{arith}
use mathlib.Core.Path.{◌≡◌, refl, ap, ap₂, sym, ◌∙◌, subst}
use mathlib.Core.Bool.{Bool, true, false, ◌||◌}
use mathlib.Core.List.{List, [], ◌∷◌}
use lib.ListN.{length, get_or, take, replicate, get_or-eq_default}
use lib.Seq.{take_all}
use lib.Dec.{eqb}
use borrow.Author.Tests.{eq-eqb, eqb-true}
use denote.Enum.Declared.{tag_of}
use types.Run.{miss}
use borrow.Enum.Refused.{Among, opened}
use Rattle.book.specs.Book.{Book}
use Rattle.book.specs.Header.{Limits}
use Rattle.book.specs.Role.{role_id}
use Rattle.book.specs.Reader.{turn_at_lem}
use Rattle.book.specs.declared.header.Counts.{Counts}
use Rattle.book.specs.declared.role.Role.{Role}
use Rattle.book.specs.declared.statement.Statement.{Statement}
use Rattle.book.specs.declared.statement.Axiom.{Axiom}
use Rattle.book.specs.declared.statement.Axiom.TheVariants.{SubClassOf, EquivalentClasses, DisjointClasses, InverseObjectProperties, SubObjectPropertyOf, TransitiveRole, SymmetricRole, FunctionalRole, InverseFunctionalRole, ObjectPropertyDomain, ObjectPropertyRange, SameIndividual, ClassAssertion, ObjectPropertyAssertion, DifferentIndividuals, NegativeObjectPropertyAssertion}
use Rattle.book.specs.contracts.statement.Axiom.{the_type}
use Rattle.rows.specs.Row.{bit, at, Put}
use Rattle.rows.proofs.row.Bits.{bit_zero}
use Rattle.rules.specs.Fact.{edge, pair}
use Rattle.rules.specs.Rule.{some}
use Rattle.rules.proofs.Facts.{edge_lt, pair_lt}
use Rattle.rules.proofs.Tests.{not-true, or_left, or_right}
use Rattle.tables.specs.Open.{book_of}
use Rattle.tables.specs.Tables.{Blank}
use Rattle.tables.proofs.Blank.{blank}
use Rattle.tables.proofs.Members.{some_same}
use Rattle.derivation.specs.Accept.{statements, member}
use Rattle.derivation.specs.Fits.{changes, deny_fits, one_of_three}
use Rattle.derivation.specs.Judging.{denial_fits}
use Rattle.derivation.specs.Tables.{Starts, told_same_lem, LabelsOf}
use Rattle.derivation.specs.Denied.{is_denial_lem, denies_fact, denies_known, WithDenied, PutAt, Denied}
use Rattle.derivation.specs.declared.row.Premises.{Premises}
use Rattle.derivation.proofs.Orders.{pair_told}

-- ---- lists

apart : {A : Type 0} {X : Type 0} {x : X} → ◌≡◌ {A = List X} [] (x ∷ []) → A
apart e = absurd (let o : ◌≡◌ {A = ℕ} 0 1 = cc in omega arith)

or-false : (a : Bool) → a ≡ (a || false)
or-false true = refl
or-false false = refl

grouped : (a b c : Bool) → ((a || b) || c) ≡ (a || (b || c))
grouped true b c = refl
grouped false b c = refl

member_some : {A : Type 0} (f : A → Bool) (l : List A) (k : ℕ) (x : A) → member l k ≡ x ∷ [] → f x ≡ true → some l f ≡ true
member_some f [] k x e t = apart e
member_some f (y ∷ l) zero x e t = let q : x ≡ y = cc in or_left (f y) _ (subst (λ z. f z ≡ true) q t)
member_some f (y ∷ l) (suc k) x e t = or_right (f y) _ (member_some f l k x e t)

-- one member more
some_more : {A : Type 0} (f : A → Bool) (l : List A) (k : ℕ) (x : A) → member l k ≡ x ∷ [] → some (take (suc k) l) f ≡ (some (take k l) f || f x)
some_more f [] k x e = apart e
some_more f (y ∷ l) zero x e = let q : y ≡ x = cc in sym (or-false (f y)) ∙ ap f q
some_more f (y ∷ l) (suc k) x e = ap (λ b. f y || b) (some_more f l k x e) ∙ sym (grouped (f y) (some (take k l) f) (f x))

-- two tests at once
some_or : {A : Type 0} (f g : A → Bool) (l : List A) → some l (λ x. f x || g x) ≡ (some l f || some l g)
some_or f g [] = refl
some_or f g (x ∷ l) = ap (λ b. (f x || g x) || b) (some_or f g l) ∙ crossed (f x) (g x) (some l f) (some l g)
  where
    crossed : (a b c d : Bool) → ((a || b) || (c || d)) ≡ ((a || c) || (b || d))
    crossed true b c d = refl
    crossed false true true d = refl
    crossed false true false d = refl
    crossed false false c d = refl

-- ---- one statement

put_is : {s t : List ℕ} (i : ℕ) → Put s i t → (g : ℕ) → at t g ≡ (at s g || eqb g i)
put_is {s} {t} i p g = go (ℕ_discrete g i)
  where
    go : Dec (g ≡ i) → at t g ≡ (at s g || eqb g i)
    go (yes e) = ap (at t) e ∙ (p.there ∙ sym (or_right (at s g) (eqb g i) (eq-eqb g i e)))
    go (no e) = p.other g e ∙ (or-false (at s g) ∙ ap (λ b. at s g || b) (sym (not-true (eqb g i) (λ q. e (eqb-true g i q)))))

pub put_different : {s t u : List ℕ} {x : Axiom} {m n : ℕ} (a b : ℕ) → x ≡ DifferentIndividuals a b → m ≡ pair a b → Put s m t → n ≡ pair b a → Put t n u → WithDenied x s u
put_different {s} {t} {u} {x} {m} {n} a b e i p j q =
    rw e (record {
      len = q.len ∙ p.len;
      facts = λ g. put_is n q g ∙ (ap₂ (λ y z. y || eqb g z) (put_is m p g ∙ ap (λ z. at s g || eqb g z) i) j ∙ grouped (at s g) (eqb g (pair a b)) (eqb g (pair b a)));
    })

pub put_negative : {s t : List ℕ} {x : Axiom} {m : ℕ} (r : Role) (a b : ℕ) → x ≡ NegativeObjectPropertyAssertion r a b → m ≡ edge r a b → Put s m t → WithDenied x s t
put_negative {s} {t} {x} {m} r a b e i p = rw e (record { len = p.len; facts = λ g. put_is m p g ∙ ap (λ z. at s g || eqb g z) i })

-- what is put is a fact's number
pub pair_below : {m n a b : ℕ} → n ≤ 512 → a < n → b < n → m ≡ pair a b → m < 17170432
pair_below {m} {n} {a} {b} t l k e = omega (arith, e, pair_lt a b (omega arith) (omega arith))

pub edge_below : {m : ℕ} (h : Counts) (r : Role) {a b : ℕ} → Limits h → m ≡ edge r a b → role_id r < h.roles → a < h.individuals → b < h.individuals → m < 17170432
edge_below h r {a} {b} t e l j k =
    omega (arith, e, edge_lt r a b (omega (arith, t.roles_top)) (omega (arith, t.individuals_top)) (omega (arith, t.individuals_top)))

-- the tags of those that deny nothing
abbrev pub passing : List ℕ
passing = 0 ∷ 1 ∷ 2 ∷ 3 ∷ 4 ∷ 5 ∷ 6 ∷ 7 ∷ 8 ∷ 9 ∷ 10 ∷ 11 ∷ 12 ∷ 13 ∷ []

pub record Passes (x : Axiom) : Type 0 where
  pub quiet : false ≡ is_denial_lem x
  pub facts : (g : ℕ) → denies_fact x g ≡ false
  pub known : (B : Book) → false ≡ denies_known B x

pub passes : (x : Axiom) → is_denial_lem x ≡ false → Passes x
passes (SubClassOf c d) k = record { quiet = refl; facts = λ g. refl; known = λ B. refl }
passes (EquivalentClasses c d) k = record { quiet = refl; facts = λ g. refl; known = λ B. refl }
passes (DisjointClasses c d) k = record { quiet = refl; facts = λ g. refl; known = λ B. refl }
passes (InverseObjectProperties r s) k = record { quiet = refl; facts = λ g. refl; known = λ B. refl }
passes (SubObjectPropertyOf p t) k = record { quiet = refl; facts = λ g. refl; known = λ B. refl }
passes (TransitiveRole r) k = record { quiet = refl; facts = λ g. refl; known = λ B. refl }
passes (SymmetricRole r) k = record { quiet = refl; facts = λ g. refl; known = λ B. refl }
passes (FunctionalRole r) k = record { quiet = refl; facts = λ g. refl; known = λ B. refl }
passes (InverseFunctionalRole r) k = record { quiet = refl; facts = λ g. refl; known = λ B. refl }
passes (ObjectPropertyDomain r c) k = record { quiet = refl; facts = λ g. refl; known = λ B. refl }
passes (ObjectPropertyRange r c) k = record { quiet = refl; facts = λ g. refl; known = λ B. refl }
passes (SameIndividual a b) k = record { quiet = refl; facts = λ g. refl; known = λ B. refl }
passes (ClassAssertion c i) k = record { quiet = refl; facts = λ g. refl; known = λ B. refl }
passes (ObjectPropertyAssertion r a b) k = record { quiet = refl; facts = λ g. refl; known = λ B. refl }
passes (DifferentIndividuals a b) k = absurd (let o : ◌≡◌ {A = ℕ} 0 1 = cc in omega arith)
passes (NegativeObjectPropertyAssertion r a b) k = absurd (let o : ◌≡◌ {A = ℕ} 0 1 = cc in omega arith)

pub quiet_tag : (x : Axiom) → Among passing (tag_of the_type x) → is_denial_lem x ≡ false
quiet_tag (SubClassOf c d) k = refl
quiet_tag (EquivalentClasses c d) k = refl
quiet_tag (DisjointClasses c d) k = refl
quiet_tag (InverseObjectProperties r s) k = refl
quiet_tag (SubObjectPropertyOf p t) k = refl
quiet_tag (TransitiveRole r) k = refl
quiet_tag (SymmetricRole r) k = refl
quiet_tag (FunctionalRole r) k = refl
quiet_tag (InverseFunctionalRole r) k = refl
quiet_tag (ObjectPropertyDomain r c) k = refl
quiet_tag (ObjectPropertyRange r c) k = refl
quiet_tag (SameIndividual a b) k = refl
quiet_tag (ClassAssertion c i) k = refl
quiet_tag (ObjectPropertyAssertion r a b) k = refl
quiet_tag (DifferentIndividuals a b) k = absurd (miss passing 14 tt (opened k))
quiet_tag (NegativeObjectPropertyAssertion r a b) k = absurd (miss passing 15 tt (opened k))

pub put_nothing : {s : List ℕ} (x : Axiom) → Among passing (tag_of the_type x) → WithDenied x s s
put_nothing {s} x k = record { len = refl; facts = λ g. or-false (at s g) ∙ ap (λ b. at s g || b) (sym ((passes x (quiet_tag x k)).facts g)) }

pub known_nothing : (x : Axiom) → Among passing (tag_of the_type x) → (B : Book) → false ≡ denies_known B x
known_nothing x k = (passes x (quiet_tag x k)).known

pub known_different : {h : Counts} {K : List ℕ} {x : Axiom} {y : Bool} (a b : ℕ) → x ≡ DifferentIndividuals a b → a < h.individuals → b < h.individuals
    → y ≡ told_same_lem h.individuals K a b → (B : Book) → LabelsOf B h K → y ≡ denies_known B x
known_different a b e l m i B t = rw e (i ∙ pair_told t a b l m)

pub known_negative : {x : Axiom} (r : Role) (a b : ℕ) → x ≡ NegativeObjectPropertyAssertion r a b → (B : Book) → false ≡ denies_known B x
known_negative r a b e B = rw e refl

-- ---- the statement at an offset

module _ (s : List ℕ) (h : Counts) (i : ℕ) where
  pub put_end_lem : {t : Option (Statement × ℕ)} {D : List ℕ} → t ≡ turn_at_lem s h i → t ≡ None → PutAt s h i D D false
  put_end_lem {t} e g z next q = let w : ◌≡◌ {A = Option (Statement × ℕ)} (Some (z, next)) None = sym q ∙ (sym e ∙ g) in absurd (let o : ◌≡◌ {A = ℕ} 0 1 = cc in omega arith)

  pub put_next : {t : Option (Statement × ℕ)} {y : Statement} {m : ℕ} {D E : List ℕ} {x : Bool} → t ≡ turn_at_lem s h i → t ≡ Some (y, m) → WithDenied y.body D E → x ≡ denies_known (book_of s) y.body
      → PutAt s h i D E x
  put_next {t} {y} {m} {D} {E} {x} e g w k z next q =
      let v : Some (y, m) ≡ Some (z, next) = sym g ∙ (e ∙ q) in
      let o : y ≡ z = (some_pair_parts y z m next v).0 in
      subst (λ (a : Statement). WithDenied a.body D E × (x ≡ denies_known (book_of s) a.body)) o (w, k)

  -- the answer about it
  abbrev pub DenialAt : Bool → Type 0
  DenialAt x = (z : Statement) (next : ℕ) → turn_at_lem s h i ≡ Some (z, next) → x ≡ is_denial_lem z.body

  pub denial_end : {t : Option (Statement × ℕ)} → t ≡ turn_at_lem s h i → t ≡ None → DenialAt false
  denial_end {t} e g z next q = let w : ◌≡◌ {A = Option (Statement × ℕ)} (Some (z, next)) None = sym q ∙ (sym e ∙ g) in absurd (let o : ◌≡◌ {A = ℕ} 0 1 = cc in omega arith)

  pub denial_next : {t : Option (Statement × ℕ)} {y : Statement} {m : ℕ} {x : Bool} → t ≡ turn_at_lem s h i → t ≡ Some (y, m) → x ≡ is_denial_lem y.body → DenialAt x
  denial_next {t} {y} {m} {x} e g w z next q =
      let v : Some (y, m) ≡ Some (z, next) = sym g ∙ (e ∙ q) in
      let o : y ≡ z = (some_pair_parts y z m next v).0 in
      subst (λ (a : Statement). x ≡ is_denial_lem a.body) o w

-- ---- all statements

-- none of the first k denies
abbrev pub Quiet : List ℕ → ℕ → Type 0
Quiet s k = some (take k (statements (book_of s))) is_denial_lem ≡ false

-- what the first k deny
abbrev pub First : List ℕ → ℕ → List ℕ → Bool → Type 0
First s k = Denied (book_of s) (take k (statements (book_of s)))

pub first_none : (s : List ℕ) {D : List ℕ} → Blank D → First s 0 D false
first_none s b = record { facts = λ g. b g; known = refl }

module _ (s : List ℕ) (h : Counts) (T : List ℕ) (starts : Starts s h (statements (book_of s)) T) (count : length (statements (book_of s)) ≡ h.statements) where
  module _ (k : ℕ) (below : k < h.statements) where
    here : (y : Statement) × (next : ℕ) × (turn_at_lem s h (get_or T k 0) ≡ Some (y, next)) × (member (statements (book_of s)) k ≡ y.body ∷ [])
    here = starts k (omega (arith, count))

    more : (f : Axiom → Bool) → some (take (k + 1) (statements (book_of s))) f ≡ (some (take k (statements (book_of s))) f || f here.0.body)
    more f = rw (add-one k) (some_more f (statements (book_of s)) k here.0.body here.3)

    pub denial_found : {x : Bool} → DenialAt s h (get_or T k 0) x → x ≡ true → true ≡ some (statements (book_of s)) is_denial_lem
    denial_found law e = sym (member_some is_denial_lem (statements (book_of s)) k here.0.body here.3 (sym (law here.0 here.1 here.2) ∙ e))

    pub quiet_more : {x : Bool} → DenialAt s h (get_or T k 0) x → x ≡ false → Quiet s k → Quiet s (k + 1)
    quiet_more law e q = more is_denial_lem ∙ ap₂ ◌||◌ q (sym (law here.0 here.1 here.2) ∙ e)

    pub first_more : {D E : List ℕ} {x y : Bool} → PutAt s h (get_or T k 0) D E x → First s k D y → First s (k + 1) E (y || x)
    first_more law d =
        let w = law here.0 here.1 here.2 in
        record {
          facts = λ g. w.0.facts g ∙ (ap (λ b. b || denies_fact here.0.body g) (d.facts g) ∙ sym (more (λ a. denies_fact a g)));
          known = ap₂ ◌||◌ d.known w.1 ∙ sym (more (denies_known (book_of s)));
        }

  module _ (k : ℕ) (past : h.statements ≤ k) where
    whole : take k (statements (book_of s)) ≡ statements (book_of s)
    whole = take_all k (statements (book_of s)) (omega (arith, count))

    pub quiet_all : Quiet s k → false ≡ some (statements (book_of s)) is_denial_lem
    quiet_all q = sym q ∙ ap (λ l. some l is_denial_lem) whole

    pub first_all : {D : List ℕ} {y : Bool} → First s k D y → Denied (book_of s) (statements (book_of s)) D y
    first_all {D} {y} d = subst (λ (l : List Axiom). Denied (book_of s) l D y) whole d

-- ---- where nothing is denied

quiet_each : (B : Book) (l : List Axiom) → some l is_denial_lem ≡ false → ((g : ℕ) → false ≡ some l (λ x. denies_fact x g)) × (false ≡ some l (denies_known B))
quiet_each B [] e = (λ g. refl, refl)
quiet_each B (x ∷ l) e = go (is_denial_lem x) refl (λ i. quiet_each B l i)
  where
    go : (b : Bool) → is_denial_lem x ≡ b → (some l is_denial_lem ≡ false → ((g : ℕ) → false ≡ some l (λ x. denies_fact x g)) × (false ≡ some l (denies_known B)))
        → ((g : ℕ) → false ≡ some (x ∷ l) (λ x. denies_fact x g)) × (false ≡ some (x ∷ l) (denies_known B))
    go true i rest = absurd (let o : true ≡ false = sym (or_left (is_denial_lem x) _ i) ∙ e in let z : ◌≡◌ {A = ℕ} 0 1 = cc in omega arith)
    go false i rest =
        let p = passes x i in
        let j : some l is_denial_lem ≡ false = ap (λ b. b || some l is_denial_lem) (sym i) ∙ e in
        let r = rest j in
        (λ g. r.0 g ∙ ap (λ b. b || some l (λ x. denies_fact x g)) (sym (p.facts g)), r.1 ∙ ap (λ b. b || some l (denies_known B)) (p.known B))

pub nothing_denied : (s : List ℕ) (n : ℕ) {x : Bool} → x ≡ some (statements (book_of s)) is_denial_lem → x ≡ false → Denied (book_of s) (statements (book_of s)) (replicate n 0) false
nothing_denied s n e i =
    let q = quiet_each (book_of s) (statements (book_of s)) (sym e ∙ i) in
    record { facts = λ g. blank n g ∙ q.0 g; known = q.1 }

-- ---- looked up

pub past_end : (D : List ℕ) (g : ℕ) {w : ℕ} → w ≡ g / 64 → length D ≤ w → false ≡ at D g
unfolding at
past_end D g {w} e l = sym (ap (λ (x : ℕ). bit x (g % 64)) (get_or-eq_default D 0 (omega arith)) ∙ bit_zero (g % 64))

deny_parts : (B : Book) (x : Axiom) (g : ℕ) → deny_fits B x g ≡ (denies_known B x || denies_fact x g)
unfolding changes
deny_parts B (SubClassOf c d) g = refl
deny_parts B (EquivalentClasses c d) g = refl
deny_parts B (DisjointClasses c d) g = refl
deny_parts B (InverseObjectProperties r s) g = refl
deny_parts B (SubObjectPropertyOf p t) g = refl
deny_parts B (TransitiveRole r) g = refl
deny_parts B (SymmetricRole r) g = refl
deny_parts B (FunctionalRole r) g = refl
deny_parts B (InverseFunctionalRole r) g = refl
deny_parts B (ObjectPropertyDomain r c) g = refl
deny_parts B (ObjectPropertyRange r c) g = refl
deny_parts B (SameIndividual a b) g = refl
deny_parts B (ClassAssertion c i) g = refl
deny_parts B (ObjectPropertyAssertion r a b) g = refl
deny_parts B (DifferentIndividuals a b) g = refl
deny_parts B (NegativeObjectPropertyAssertion r a b) g = refl

pub denial_is : {D : List ℕ} {y a b c : Bool} (p : Premises) → a ≡ at D p.one → b ≡ at D p.two → c ≡ at D p.three
    → (B : Book) → Denied B (statements B) D y → (y || (a || (b || c))) ≡ denial_fits B p
unfolding denial_fits
denial_is {D} {y} p i j k B d =
    ap₂ ◌||◌ d.known (ap₂ ◌||◌ (i ∙ d.facts p.one) (ap₂ ◌||◌ (j ∙ d.facts p.two) (k ∙ d.facts p.three)))
    ∙ sym (some_same _ _ each (statements B) ∙ spread)
  where
    known : Axiom → Bool
    known = denies_known B

    here : ℕ → Axiom → Bool
    here g x = denies_fact x g

    once : (n u v w : Bool) → ((n || u) || ((n || v) || (n || w))) ≡ (n || (u || (v || w)))
    once true u v w = refl
    once false u v w = refl

    each : (x : Axiom) → one_of_three p.one p.two p.three (deny_fits B x) ≡ (known x || (here p.one x || (here p.two x || here p.three x)))
    each x = ap₂ ◌||◌ (deny_parts B x p.one) (ap₂ ◌||◌ (deny_parts B x p.two) (deny_parts B x p.three)) ∙ once (known x) _ _ _

    spread : some (statements B) (λ x. known x || (here p.one x || (here p.two x || here p.three x)))
        ≡ (some (statements B) known || (some (statements B) (here p.one) || (some (statements B) (here p.two) || some (statements B) (here p.three))))
    spread =
        some_or known (λ x. here p.one x || (here p.two x || here p.three x)) (statements B)
        ∙ ap (λ b. some (statements B) known || b) (some_or (here p.one) (λ x. here p.two x || here p.three x) (statements B)
        ∙ ap (λ b. some (statements B) (here p.one) || b) (some_or (here p.two) (here p.three) (statements B)))
