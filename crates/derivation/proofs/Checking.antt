-- The ways of the checker: a row is accepted exactly where its tests pass.
use Rattle.std.proofs.Common.{Option, None, Some}
use Rattle.std.proofs.lemmas.Option.{some_pair_parts}
use Prim.Native.Nat.{ℕ, zero, suc, ◌+◌, ◌<◌, ◌≤◌}
use native.Mathlib.Decide.{ℕ_discrete}
use native.Mathlib.Omega.{arith}
use mathlib.Core.Path.{◌≡◌, refl, ap, ap₂, sym, ◌∙◌, subst}
use mathlib.Core.Bool.{Bool, true, false, ◌&&◌, ◌||◌, or-false}
use mathlib.Core.List.{List, [], ◌∷◌}
use lib.ListN.{length, get_or}
use lib.Dec.{eqb}
use borrow.Author.Tests.{eq-eqb, ne_eqb}
use Rattle.book.specs.Book.{Book}
use Rattle.book.specs.Reader.{turn_at_lem}
use Rattle.book.specs.Within.{Within, Every}
use Rattle.book.specs.declared.header.Counts.{Counts}
use Rattle.book.specs.declared.statement.Axiom.{Axiom}
use Rattle.book.specs.declared.statement.Statement.{Statement}
use Rattle.book.proofs.reader.Laws.{turn_within}
use Rattle.rules.specs.Rule.{some}
use Rattle.tables.specs.Open.{book_of, Open}
use Rattle.tables.proofs.Open.{whole, open_within}
use Rattle.book.specs.Header.{Limits}
use Rattle.book.specs.Read.{pick}
use Rattle.book.specs.declared.statement.Axiom.TheVariants.{SubClassOf, EquivalentClasses, DisjointClasses, InverseObjectProperties, SubObjectPropertyOf, TransitiveRole, SymmetricRole, FunctionalRole, InverseFunctionalRole, ObjectPropertyDomain, ObjectPropertyRange, SameIndividual, ClassAssertion, ObjectPropertyAssertion, DifferentIndividuals, NegativeObjectPropertyAssertion}
use Rattle.book.proofs.Accepted.{accepted_limits, accepted_axioms, accepted_within}
use Rattle.rules.specs.Brought.{concept, atomic_of, markers}
use Rattle.rules.specs.Clash.{Mark, bring_marks, marks_by, marks}
use Rattle.rules.proofs.Tests.{every_append, every_from, every_all}
use Rattle.tables.proofs.Sides.{class_low, disjoint_low}
use Rattle.derivation.specs.Rows.{none, row_at, Claim, fact, clash, nothing, claim, says_row, named, earlier, number_of, premises_of}
use Rattle.derivation.specs.Accept.{by_statement_lem, by_sharing_lem, denies, by_clash_lem, follows, claim_at, accepts, statements, rule_number_lem, member}
use Rattle.derivation.proofs.Judging.{Low, statement_tried, sharing_tried}
use Rattle.derivation.proofs.Clashing.{clash_tried}
use Rattle.derivation.proofs.Denying.{denial_tried}
use Rattle.derivation.proofs.Claims.{claim_low}
use Rattle.derivation.proofs.Sound.{member_every}
use Rattle.derivation.specs.declared.row.Row.{Row}
use Rattle.derivation.specs.declared.row.Premises.{Premises}
use Rattle.derivation.specs.Fits.{fits, any_order}
use Rattle.derivation.specs.Judging.{Prepared, Ready, statement_fits, sharing_fits, denial_fits, clash_fits_row}

member_past : {A : Type 0} (l : List A) (k : ℕ) → length l ≤ k → member l k ≡ []
member_past [] k h = refl
member_past (x ∷ l) zero h = absurd (omega arith)
member_past (x ∷ l) (suc k) h = member_past l k (omega arith)

module _ {s : List ℕ} {h : Counts} {T L S D : List ℕ} (q : Prepared s h T L S D) (r : Row) (f : ℕ) (p : Premises) where
  abbrev test : Axiom → Bool
  test x = eqb (rule_number_lem x) r.rule && any_order p.one p.two p.three (fits (book_of s) x f)

  pub statement_past : h.statements ≤ r.statement → false ≡ statement_fits (book_of s) r f p
  unfolding statement_fits
  statement_past l = rw (member_past (statements (book_of s)) r.statement (omega (arith, q.count))) refl

  module _ (below : r.statement < h.statements) where
    read : (x : Statement) × (next : ℕ) × (turn_at_lem s h (get_or T r.statement 0) ≡ Some (x, next)) × (member (statements (book_of s)) r.statement ≡ x.body ∷ [])
    read = q.starts r.statement (omega (arith, q.count))

    pub statement_end_law : {t : Option (Statement × ℕ)} → t ≡ turn_at_lem s h (get_or T r.statement 0) → t ≡ None → false ≡ statement_fits (book_of s) r f p
    statement_end_law {t} e g = let z : ◌≡◌ {A = Option (Statement × ℕ)} (Some (read.0, read.1)) None = sym read.2 ∙ (sym e ∙ g) in absurd (let o : ◌≡◌ {A = ℕ} 0 1 = cc in omega arith)

    module _ {t : Option (Statement × ℕ)} {z : Statement} {next : ℕ} (e : t ≡ turn_at_lem s h (get_or T r.statement 0)) (g : t ≡ Some (z, next)) where
      abbrev x : Axiom
      x = z.body

      pub statement_within : Within h z.body
      statement_within = (turn_within s h (get_or T r.statement 0) z next (sym e ∙ g)).body

      found : member (statements (book_of s)) r.statement ≡ x ∷ []
      found =
          let w : Some (read.0, read.1) ≡ Some (z, next) = sym read.2 ∙ (sym e ∙ g) in
          let o : read.0 ≡ z = (some_pair_parts read.0 z read.1 next w).0 in
          read.3 ∙ ap (λ (y : Statement). y.body ∷ []) o

      pub statement_one : {n : ℕ} {b : Bool} → n ≡ rule_number_lem x → n ≡ r.rule → b ≡ any_order p.one p.two p.three (fits (book_of s) x f) → b ≡ statement_fits (book_of s) r f p
      unfolding statement_fits
      statement_one {n} i j k = rw (found, or-false (test x), eq-eqb (rule_number_lem x) r.rule (sym i ∙ j)) k

      pub statement_other : {n : ℕ} → n ≡ rule_number_lem x → (n ≡ r.rule → ⊥) → false ≡ statement_fits (book_of s) r f p
      unfolding statement_fits
      statement_other {n} i j = rw (found, or-false (test x), ne_eqb (rule_number_lem x) r.rule (λ w. j (i ∙ w))) refl

-- ---- a row

some_within : {A : Type 0} (Q : A → Type 0) (f g : A → Bool) → ((x : A) → Q x → f x ≡ g x) → (l : List A) → Every Q l → some l f ≡ some l g
some_within Q f g h [] w = refl
some_within Q f g h (x ∷ l) w = ap₂ ◌||◌ (h x w.0) (some_within Q f g h l w.1)

-- the class of a mark is the book's own
module _ {s O : List ℕ} {h : Counts} (o : Open s h O) where
  bring_low : (c d : ℕ) → Every (λ (m : Mark). m.left < h.classes) (bring_marks (concept (book_of s) c) (concept (book_of s) d))
  bring_low c d = every_from (λ a. a < h.classes) (λ (m : Mark). m.left < h.classes) _ (λ a l. every_from (λ m. Unit {0}) (λ (m : Mark). m.left < h.classes) _ (λ m u. (l, tt)) (markers (concept (book_of s) d)) (every_all (λ m. Unit {0}) (λ m. tt) (markers (concept (book_of s) d)))) (atomic_of (concept (book_of s) c)) (class_low o c)

  mark_low : (x : Axiom) → Every (λ (m : Mark). m.left < h.classes) (marks_by (book_of s) x)
  mark_low (SubClassOf c d) = bring_low c d
  mark_low (EquivalentClasses c d) = every_append _ (bring_marks (concept (book_of s) c) (concept (book_of s) d)) _ (bring_low c d) (bring_low d c)
  mark_low (DisjointClasses c d) = tt
  mark_low (InverseObjectProperties r s) = tt
  mark_low (SubObjectPropertyOf p t) = tt
  mark_low (TransitiveRole r) = tt
  mark_low (SymmetricRole r) = tt
  mark_low (FunctionalRole r) = tt
  mark_low (InverseFunctionalRole r) = tt
  mark_low (ObjectPropertyDomain r c) = tt
  mark_low (ObjectPropertyRange r c) = tt
  mark_low (SameIndividual a b) = tt
  mark_low (ClassAssertion c i) = tt
  mark_low (ObjectPropertyAssertion r a b) = tt
  mark_low (DifferentIndividuals a b) = tt
  mark_low (NegativeObjectPropertyAssertion r a b) = tt

  pub marks_low : Every (λ (m : Mark). m.left < h.classes) (marks (book_of s))
  marks_low = every_from (λ x. Unit {0}) (λ (m : Mark). m.left < h.classes) (marks_by (book_of s)) (λ x u. mark_low x) (statements (book_of s)) (every_all (λ x. Unit {0}) (λ x. tt) (statements (book_of s)))

-- what the tests say of row k of a list, for the book's own counts
module _ (s O : List ℕ) (o : Open s (book_of s).counts O) (below : (x : ℕ) → Every (λ y. y < 256) (atomic_of (concept (book_of s) x))) (l : List ℕ) (k : ℕ) where
  abbrev B : Book
  B = book_of s

  abbrev r : Row
  r = row_at l k

  top : Limits B.counts
  top = accepted_limits s B (whole o)

  low : (x : ℕ) → Low (says_row B.counts l x)
  low x = go (eqb x none)
    where
      go : (b : Bool) → Low (pick b nothing (claim B.counts (row_at l x)))
      go true = tt
      go false = claim_low B.counts (row_at l x) top

  abbrev a : Claim
  a = says_row B.counts l r.first

  abbrev b : Claim
  b = says_row B.counts l r.second

  abbrev c : Claim
  c = says_row B.counts l r.third

  abbrev p : Premises
  p = premises_of B.counts l r

  statement_same : (f : ℕ) → statement_fits B r f p ≡ by_statement_lem B r (named B.counts l r) f
  unfolding statement_fits by_statement_lem premises_of named
  statement_same f = some_within (Within B.counts) _ _ (λ x w. ap (λ (z : Bool). eqb (rule_number_lem x) r.rule && z) (sym (statement_tried a b c (low r.first) (low r.second) (low r.third) B top below f x w))) (member (statements B) r.statement) (member_every (Within B.counts) (statements B) r.statement (accepted_within s B (whole o)))

  sharing_same : (f : ℕ) → sharing_fits B.counts B r f p ≡ by_sharing_lem B r (named B.counts l r) f
  unfolding sharing_fits by_sharing_lem premises_of named
  sharing_same f = rw (sharing_tried a b c (low r.first) (low r.second) (low r.third) B top below f) refl

  clash_same : clash_fits_row B.counts B r p ≡ by_clash_lem B r (named B.counts l r)
  unfolding clash_fits_row by_clash_lem denial_fits denies premises_of named
  clash_same =
      let i : length (statements B) ≡ B.counts.statements = accepted_axioms s B (whole o) in
      rw (i, clash_tried B top (disjoint_low o (book_of s).statements (open_within o)) (marks_low o) a b c (low r.first) (low r.second) (low r.third), denial_tried a b c (low r.first) (low r.second) (low r.third) B top (statements B) (accepted_within s B (whole o))) refl

  -- the answers of `accept`
  row_late : earlier k r ≡ false → false ≡ accepts B l k
  unfolding accepts
  row_late e = rw e refl

  row_nothing : number_of (claim_at B l k) ≡ none → earlier k r ≡ true → false ≡ accepts B l k
  unfolding accepts
  row_nothing n e = rw e (go (claim_at B l k) (claim_low B.counts r top) n)
    where
      go : (x : Claim) → Low x → number_of x ≡ none → false ≡ follows B r (named B.counts l r) x
      go (fact g) w q = absurd (omega arith)
      go clash w q = absurd (omega arith)
      go nothing w q = refl

  row_clash_law : {y : Bool} → number_of (claim_at B l k) ≡ 4294967294 → earlier k r ≡ true → y ≡ clash_fits_row B.counts B r p → y ≡ accepts B l k
  unfolding accepts
  row_clash_law n e w = rw e (go (claim_at B l k) (claim_low B.counts r top) n (w ∙ clash_same))
    where
      go : {y : Bool} (x : Claim) → Low x → number_of x ≡ 4294967294 → y ≡ by_clash_lem B r (named B.counts l r) → y ≡ follows B r (named B.counts l r) x
      go (fact g) w q u = absurd (omega arith)
      go clash w q u = u
      go nothing w q u = absurd (omega arith)

  row_fact : {n : ℕ} {y : Bool} → n ≡ number_of (claim_at B l k) → (n ≡ none → ⊥) → (n ≡ 4294967294 → ⊥) → earlier k r ≡ true → y ≡ (statement_fits B r n p || sharing_fits B.counts B r n p) → y ≡ accepts B l k
  unfolding accepts
  row_fact {n} {y} e i j m w = rw m (go (claim_at B l k) e (w ∙ rw (statement_same n, sharing_same n) refl))
    where
      go : (x : Claim) → n ≡ number_of x → y ≡ (by_statement_lem B r (named B.counts l r) n || by_sharing_lem B r (named B.counts l r) n) → y ≡ follows B r (named B.counts l r) x
      go (fact g) q u = subst (λ (z : ℕ). y ≡ (by_statement_lem B r (named B.counts l r) z || by_sharing_lem B r (named B.counts l r) z)) q u
      go clash q u = absurd (j q)
      go nothing q u = absurd (i q)

-- the same for tables that are ready
module _ {s : List ℕ} {h : Counts} {T L S D K P N : List ℕ} {y : Bool} (q : Ready s h T L S D K P N y) (l : List ℕ) (k : ℕ) where
  own : Open s (book_of s).counts q.offsets
  own = subst (λ (g : Counts). Open s g q.offsets) (sym q.opened.counts) q.opened

  abbrev ClashLaw : Bool → Counts → Type 0
  ClashLaw y g = number_of (claim g (row_at l k)) ≡ 4294967294 → earlier k (row_at l k) ≡ true → y ≡ clash_fits_row g (book_of s) (row_at l k) (premises_of g l (row_at l k)) → y ≡ accepts (book_of s) l k

  abbrev NothingLaw : Counts → Type 0
  NothingLaw g = number_of (claim g (row_at l k)) ≡ none → earlier k (row_at l k) ≡ true → false ≡ accepts (book_of s) l k

  abbrev FactLaw : ℕ → Bool → Counts → Type 0
  FactLaw n y g = n ≡ number_of (claim g (row_at l k)) → (n ≡ none → ⊥) → (n ≡ 4294967294 → ⊥) → earlier k (row_at l k) ≡ true
      → y ≡ (statement_fits (book_of s) (row_at l k) n (premises_of g l (row_at l k)) || sharing_fits g (book_of s) (row_at l k) n (premises_of g l (row_at l k))) → y ≡ accepts (book_of s) l k

  pub accept_late : {r : Row} {e : Bool} → r ≡ row_at l k → e ≡ earlier k r → e ≡ false → false ≡ accepts (book_of s) l k
  accept_late i f g = row_late s q.offsets own q.prepared.of.class_low l k (ap (earlier k) (sym i) ∙ (sym f ∙ g))

  pub accept_nothing : {r : Row} {e : Bool} {n : ℕ} → r ≡ row_at l k → e ≡ earlier k r → e ≡ true → n ≡ number_of (claim h r) → n ≡ none → false ≡ accepts (book_of s) l k
  accept_nothing i f g m o =
      subst NothingLaw q.opened.counts (row_nothing s q.offsets own q.prepared.of.class_low l k)
      (ap (λ (x : Row). number_of (claim h x)) (sym i) ∙ (sym m ∙ o)) (ap (earlier k) (sym i) ∙ (sym f ∙ g))

  pub accept_clash : {r : Row} {e y : Bool} {n : ℕ} {p : Premises} → r ≡ row_at l k → e ≡ earlier k r → e ≡ true → p ≡ premises_of h l r → n ≡ number_of (claim h r) → n ≡ 4294967294 → y ≡ clash_fits_row h (book_of s) r p → y ≡ accepts (book_of s) l k
  accept_clash {r} {e} {y} {n} {p} i f g j m o w =
      subst (ClashLaw y) q.opened.counts (row_clash_law s q.offsets own q.prepared.of.class_low l k)
      (ap (λ (x : Row). number_of (claim h x)) (sym i) ∙ (sym m ∙ o)) (ap (earlier k) (sym i) ∙ (sym f ∙ g))
      (w ∙ (ap (clash_fits_row h (book_of s) r) j ∙ ap (λ (x : Row). clash_fits_row h (book_of s) x (premises_of h l x)) i))

  pub accept_fact : {r : Row} {e y : Bool} {n : ℕ} {p : Premises} → r ≡ row_at l k → e ≡ earlier k r → e ≡ true → p ≡ premises_of h l r → n ≡ number_of (claim h r) → (n ≡ none → ⊥) → (n ≡ 4294967294 → ⊥)
      → y ≡ (statement_fits (book_of s) r n p || sharing_fits h (book_of s) r n p) → y ≡ accepts (book_of s) l k
  accept_fact {r} {e} {y} {n} {p} i f g j m o u w =
      subst (FactLaw n y) q.opened.counts (row_fact s q.offsets own q.prepared.of.class_low l k)
      (m ∙ ap (λ (x : Row). number_of (claim h x)) i) o u (ap (earlier k) (sym i) ∙ (sym f ∙ g))
      (w ∙ (ap (λ (z : Premises). statement_fits (book_of s) r n z || sharing_fits h (book_of s) r n z) j ∙ ap (λ (x : Row). statement_fits (book_of s) x n (premises_of h l x) || sharing_fits h (book_of s) x n (premises_of h l x)) i))

-- one more row that is accepted
pub accepted_more : (B : Book) (l : List ℕ) (k : ℕ) {y : Bool} → ((j : ℕ) → j < k → accepts B l j ≡ true) → y ≡ accepts B l k → y ≡ true → (j : ℕ) → j < k + 1 → accepts B l j ≡ true
accepted_more B l k h e i j m = go (ℕ_discrete j k)
  where
    go : Dec (j ≡ k) → accepts B l j ≡ true
    go (yes u) = ap (accepts B l) u ∙ (sym e ∙ i)
    go (no u) = h j (omega arith)
