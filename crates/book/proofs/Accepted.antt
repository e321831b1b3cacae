-- The laws of an accepted book, for the crates above: what was decoded is what the readers of single records give, and all of it is in range.
use Prim.Native.Nat.{ℕ, zero, suc, ◌+◌, ◌*◌, ◌-◌, ◌≤◌, ◌<◌}
use native.Mathlib.Omega.{arith}
use native.Mathlib.Decide.{dec_lt}
use mathlib.Core.Path.{◌≡◌, refl, sym, ap, ap₂, ◌∙◌, subst}
use mathlib.Core.List.{List, [], ◌∷◌, ◌++◌, append-nil}
use lib.ListN.{length, length-append, get_or-append}
use lib.Seq.{get_or_at}
use lib.Dec.{leb}
use borrow.Author.Tests.{leb-true, le-leb}
use Rattle.std.specs.Prelude.{Result, Ok, Err}
use Rattle.book.specs.declared.refusal.Refusal.{Refusal}
use Rattle.book.specs.declared.header.Counts.{Counts}
use Rattle.book.specs.declared.concept.ConceptExpr.{ConceptExpr}
use Rattle.book.specs.declared.concept.ConceptExpr.TheVariants.{Top, Bot, Atomic, Nominal, SelfRestriction, Not, And, Or, Some, All, Min, Max}
use Rattle.book.specs.declared.statement.Axiom.{Axiom}
use Rattle.book.specs.declared.statement.SubRolePath.TheVariants.{One, Two, Three}
use Rattle.book.specs.declared.statement.Axiom.TheVariants.{SubClassOf, EquivalentClasses, DisjointClasses, InverseObjectProperties, SubObjectPropertyOf, TransitiveRole, SymmetricRole, FunctionalRole, InverseFunctionalRole, ObjectPropertyDomain, ObjectPropertyRange, SameIndividual, ClassAssertion, ObjectPropertyAssertion, DifferentIndividuals, NegativeObjectPropertyAssertion}
use Rattle.book.specs.declared.statement.Statement.{Statement}
use Rattle.book.specs.Refusal.{number}
use Rattle.book.specs.Read.{Read, value, refusal, as_read, several}
use Rattle.book.specs.Field.{number_at_lem}
use Rattle.book.specs.Header.{counting, header, Limits}
use Rattle.book.specs.Concept.{concept}
use Rattle.book.specs.Statement.{statement, bodies}
use Rattle.book.specs.Tree.{Concept, none, more, nth, part_trees, tree_of}
use Rattle.book.specs.Book.{Book, axioms, concepts, book, Decoded, accepted, refused, decoded, decode, concept_offset, check_of, BookChecked}
use Rattle.book.specs.Reader.{rest}
use Rattle.book.specs.Within.{Every, ConceptWithin, Within, StatementWithin}
use Rattle.book.proofs.Parsing.{no_value, came, held, same_value, reached, Forward}
use Rattle.book.proofs.header.Laws.{header_limits}
use Rattle.book.proofs.concept.Laws.{concept_within}
use Rattle.book.proofs.statement.Laws.{statement_within, statement_goes}
use Rattle.book.proofs.reader.Laws.{rest_several, rest_behind}
use Rattle.book.proofs.check.Ways.{Concepts as ConceptWalk, one_concept, unroll_concepts}

-- the parts from place i on: a walk by place and a recursion over the tree see the same
module _ (s : List ℕ) (ts : List Concept) where
  pub parts_more : (at len i : ℕ) → i < len → part_trees s ts (at + 2 * i) (len - i) ≡ more (nth ts (number_at_lem s (at + 2 * i))) (part_trees s ts (at + 2 * (i + 1)) (len - (i + 1)))
  unfolding part_trees
  parts_more at len i l =
      let q : len - i ≡ suc (len - (i + 1)) = omega arith in
      let e : at + 2 * i + 2 ≡ at + 2 * (i + 1) = omega arith in
      rw (q, e) refl

  pub parts_none : (at len i : ℕ) → len ≤ i → part_trees s ts (at + 2 * i) (len - i) ≡ none
  unfolding part_trees
  parts_none at len i l = let q : len - i ≡ 0 = omega arith in rw q refl

-- a tree is the same over more concepts than it names
module _ (s : List ℕ) (h : Counts) (k : ℕ) (ts us : List Concept) (same : (j : ℕ) → j < k → nth ts j ≡ nth us j) where
  parts_same : (at n : ℕ) → ((i : ℕ) → i < n → number_at_lem s (at + 2 * i) < k) → part_trees s ts at n ≡ part_trees s us at n
  unfolding part_trees
  parts_same at zero low = refl
  parts_same at (suc n) low =
      let first : number_at_lem s at < k = (let z : at + 2 * 0 ≡ at = omega arith in rw z at (low 0 (omega arith))) in
      let later : (i : ℕ) → i < n → number_at_lem s (at + 2 + 2 * i) < k = (λ i l. let z : at + 2 * (i + 1) ≡ at + 2 + 2 * i = omega arith in rw z at (low (i + 1) (omega arith))) in
      ap₂ more (same (number_at_lem s at) first) (parts_same (at + 2) n later)

  tree_same : (x : ConceptExpr) → ConceptWithin s h k x → tree_of s ts x ≡ tree_of s us x
  tree_same Top w = refl
  tree_same Bot w = refl
  tree_same (Atomic c) w = refl
  tree_same (Nominal i) w = refl
  tree_same (SelfRestriction r) w = refl
  tree_same (Not c) w = rw (same c w) refl
  tree_same (And p) w = rw (parts_same p.at p.len w.lower) refl
  tree_same (Or p) w = rw (parts_same p.at p.len w.lower) refl
  tree_same (Some r c) w = rw (same c w.1) refl
  tree_same (All r c) w = rw (same c w.1) refl
  tree_same (Min n r c) w = rw (same c w.1) refl
  tree_same (Max n r c) w = rw (same c w.1) refl

-- the trees of the first n concepts: n many, and those of fewer stand in front
module _ (s : List ℕ) (h : Counts) (at : ℕ) where
  trees_count : (n : ℕ) (ts : List Concept) (e : ℕ) → concepts h n s at ≡ value ts e → length ts ≡ n
  unfolding concepts
  trees_count zero ts e t = ap length (sym (same_value [] ts at e t).0)
  trees_count (suc n) ts e t = step (trees_count n)
    where
      step : ((ts : List Concept) (e : ℕ) → concepts h n s at ≡ value ts e → length ts ≡ n) → length ts ≡ suc n
      step ih =
          let a = came (concepts h n s at) _ ts e t in
          let b = came (concept h n s a.1) _ ts e a.3 in
          let c = same_value (a.0 ++ (tree_of s a.0 b.0 ∷ [])) ts b.1 e b.3 in
          ap length (sym c.0) ∙ (length-append a.0 (tree_of s a.0 b.0 ∷ []) ∙ omega (arith, ih a.0 a.1 a.2))

  trees_front : (n : ℕ) (ts : List Concept) (e k : ℕ) (us : List Concept) (here : ℕ) → concepts h n s at ≡ value ts e → concepts h k s at ≡ value us here → k ≤ n → (j : ℕ) → j < k → nth us j ≡ nth ts j
  unfolding concepts
  trees_front zero ts e k us here t u l j m = absurd (omega arith)
  trees_front (suc n) ts e k us here t u l j m = step (trees_front n) (dec_lt n k)
    where
      step : ((ts : List Concept) (e k : ℕ) (us : List Concept) (here : ℕ) → concepts h n s at ≡ value ts e → concepts h k s at ≡ value us here → k ≤ n → (j : ℕ) → j < k → nth us j ≡ nth ts j) → Dec (n < k) → nth us j ≡ nth ts j
      step ih (yes b) =
          let q : k ≡ suc n = omega arith in
          let u' : concepts h (suc n) s at ≡ value us here = subst (λ (x : ℕ). concepts h x s at ≡ value us here) q u in
          ap (λ (l : List Concept). nth l j) (same_value us ts here e (sym u' ∙ t)).0
      step ih (no b) =
          let a = came (concepts h n s at) _ ts e t in
          let c = came (concept h n s a.1) _ ts e a.3 in
          let d = same_value (a.0 ++ (tree_of s a.0 c.0 ∷ [])) ts c.1 e c.3 in
          let short : j < length a.0 = omega (arith, trees_count n a.0 a.1 a.2) in
          ih a.0 a.1 k us here a.2 u (omega arith) j m
          ∙ (sym (get_or-append a.0 (tree_of s a.0 c.0 ∷ []) Concept.Top j short)
          ∙ ap (λ (l : List Concept). nth l j) d.0)

several_every : (s : List ℕ) (h : Counts) (k at : ℕ) (xs : List Statement) (e : ℕ) → several (statement h) k s at ≡ value xs e → Every (StatementWithin h) xs × (length xs ≡ k)
unfolding several
several_every s h zero at xs e t = subst (λ (l : List Statement). Every (StatementWithin h) l × (length l ≡ 0)) (same_value [] xs at e t).0 (tt, refl)
several_every s h (suc k) at xs e t = step (several_every s h k at)
  where
    appended : (l : List Statement) (y : Statement) → Every (StatementWithin h) l → StatementWithin h y → Every (StatementWithin h) (l ++ (y ∷ []))
    appended [] y f g = (g, tt)
    appended (x ∷ l) y f g = (f.0, appended l y f.1 g)

    step : ((ys : List Statement) (m : ℕ) → several (statement h) k s at ≡ value ys m → Every (StatementWithin h) ys × (length ys ≡ k)) → Every (StatementWithin h) xs × (length xs ≡ suc k)
    step ih =
        let a = came (several (statement h) k s at) _ xs e t in
        let b = came (statement h s a.1) _ xs e a.3 in
        let c = same_value (a.0 ++ (b.0 ∷ [])) xs b.1 e b.3 in
        let old = ih a.0 a.1 a.2 in
        subst (λ (l : List Statement). Every (StatementWithin h) l × (length l ≡ suc k)) c.0
        (appended a.0 b.0 old.0 (statement_within s h a.1 b.0 b.1 b.2), length-append a.0 (b.0 ∷ []) ∙ omega (arith, old.1))

-- what keeps to the counts does so whatever the number of statements
pub within_same : (h : Counts) (m : ℕ) (x : Axiom) → Within h x → Within (counting h m) x
within_same h m (SubClassOf c d) w = w
within_same h m (EquivalentClasses c d) w = w
within_same h m (DisjointClasses c d) w = w
within_same h m (InverseObjectProperties r s) w = w
within_same h m (SubObjectPropertyOf (One r) t) w = w
within_same h m (SubObjectPropertyOf (Two r s) t) w = w
within_same h m (SubObjectPropertyOf (Three r s u) t) w = w
within_same h m (TransitiveRole r) w = w
within_same h m (SymmetricRole r) w = w
within_same h m (FunctionalRole r) w = w
within_same h m (InverseFunctionalRole r) w = w
within_same h m (ObjectPropertyDomain r c) w = w
within_same h m (ObjectPropertyRange r c) w = w
within_same h m (SameIndividual i j) w = w
within_same h m (ClassAssertion c i) w = w
within_same h m (ObjectPropertyAssertion r i j) w = w
within_same h m (DifferentIndividuals i j) w = w
within_same h m (NegativeObjectPropertyAssertion r i j) w = w

pub record_same : (h : Counts) (m : ℕ) (x : Statement) → StatementWithin h x → StatementWithin (counting h m) x
record_same h m x w = record { body = within_same h m x.body w.body; source_top = w.source_top; period = w.period; last_top = w.last_top }

-- what holds of every record's statement
pub every_body : (h : Counts) (xs : List Statement) → Every (StatementWithin h) xs → Every (Within h) (bodies xs)
every_body h [] w = tt
every_body h (x ∷ xs) w = (w.0.body, every_body h xs w.1)

pub bodies_length : (xs : List Statement) → length (bodies xs) ≡ length xs
bodies_length [] = refl
bodies_length (x ∷ xs) = ap suc (bodies_length xs)

-- a book that is read part by part
pub decode_of : (w : List ℕ) (B : Book) (at start e : ℕ) → header w 0 ≡ value B.counts at → concepts B.counts B.counts.concepts w at ≡ value B.concepts start → several (statement B.counts) B.counts.statements w start ≡ value B.statements e → length w ≤ e → decode w ≡ accepted B
unfolding decode book
decode_of w B at start e p q r l = simp (p, q, r, le-leb _ _ l)

pub forward_statement : (h : Counts) → Forward (statement h)
forward_statement h s at x e l q = let g = statement_goes s h at x e q in (omega (arith, g.0), g.1)

-- the record of concept k of an accepted book
pub record ConceptRead (s : List ℕ) (b : Book) (k : ℕ) : Type 0 where
  pub expr : ConceptExpr
  pub next : ℕ
  pub read : concept b.counts k s (concept_offset s k) ≡ value expr next
  pub within : ConceptWithin s b.counts k expr
  pub tree : nth b.concepts k ≡ tree_of s b.concepts expr

module _ (s : List ℕ) (b : Book) (whole : decode s ≡ accepted b) where
  -- where an accepted book's header, concepts and statements end
  pub record Layout : Type 0 where
    pub at : ℕ
    pub start : ℕ
    pub end : ℕ
    pub head : header s 0 ≡ value b.counts at
    pub trees : concepts b.counts b.counts.concepts s at ≡ value b.concepts start
    pub list : several (statement b.counts) b.counts.statements s start ≡ value b.statements end
    pub ends : length s ≤ end

  read_whole : (r : Read Book) → book s 0 ≡ r → decoded r ≡ accepted b → (e : ℕ) × (book s 0 ≡ value b e)
  read_whole (value c e) q t = let x : c ≡ b = cc in (e, q ∙ ap (λ (y : Book). value y e) x)
  read_whole (refusal n) q t = absurd (let z : ◌≡◌ {A = ℕ} 0 1 = cc in omega arith)

  pub layout : Layout
  unfolding decode book
  layout =
      let w = read_whole (book s 0) refl whole in
      let h = came (header s 0) _ b w.0 w.1 in
      let c = came (concepts h.0 h.0.concepts s h.1) _ b w.0 h.3 in
      let x = came (several (statement h.0) h.0.statements s c.1) _ b w.0 c.3 in
      let o = held (leb (length s) x.1) 10 s x.1 _ b w.0 x.3 in
      let made : Book = record { counts = h.0; concepts = c.0; statements = x.0 } in
      let e = same_value made b x.1 w.0 o.1 in
      let lay : (y : Book) → made ≡ y → (header s 0 ≡ value y.counts h.1) × (concepts y.counts y.counts.concepts s h.1 ≡ value y.concepts c.1) × (several (statement y.counts) y.counts.statements s c.1 ≡ value y.statements x.1) = (λ y q. subst (λ (z : Book). (header s 0 ≡ value z.counts h.1) × (concepts z.counts z.counts.concepts s h.1 ≡ value z.concepts c.1) × (several (statement z.counts) z.counts.statements s c.1 ≡ value z.statements x.1)) q (h.2, c.2, x.2)) in
      let l = lay b e.0 in
      record { at = h.1; start = c.1; end = x.1; head = l.0; trees = l.1; list = l.2; ends = leb-true (length s) x.1 o.0 }

  -- an accepted book keeps the limits
  pub accepted_limits : Limits b.counts
  accepted_limits = header_limits s 0 b.counts layout.at layout.head

  -- it has as many concepts and statements as its header says
  pub accepted_concepts : length b.concepts ≡ b.counts.concepts
  accepted_concepts = trees_count s b.counts layout.at b.counts.concepts b.concepts layout.start layout.trees

  pub accepted_statements : length b.statements ≡ b.counts.statements
  accepted_statements = (several_every s b.counts b.counts.statements layout.start b.statements layout.end layout.list).1

  pub accepted_axioms : length (axioms b) ≡ b.counts.statements
  accepted_axioms = bodies_length b.statements ∙ accepted_statements

  -- every record keeps to the counts, and so does what it says
  pub accepted_records : Every (StatementWithin b.counts) b.statements
  accepted_records = (several_every s b.counts b.counts.statements layout.start b.statements layout.end layout.list).0

  pub accepted_within : Every (Within b.counts) (axioms b)
  accepted_within = every_body b.counts b.statements accepted_records

  pub offset_is : (k here : ℕ) (ts : List Concept) → concepts b.counts k s layout.at ≡ value ts here → concept_offset s k ≡ here
  unfolding concept_offset
  offset_is k here ts t = simp (layout.head, t)

  -- the steps from the statements' offset give exactly the decoded list, in order
  pub accepted_rest : rest s b.counts (concept_offset s b.counts.concepts) ≡ b.statements
  accepted_rest =
      let l = layout in
      rw (offset_is b.counts.concepts l.start b.concepts l.trees)
      (rest_several s b.counts b.counts.statements l.start b.statements l.end l.list
      ∙ (ap (λ (x : List Statement). b.statements ++ x) (rest_behind s b.counts l.end l.ends) ∙ append-nil b.statements))

  -- the record of each concept is in range, and its tree is the decoded one
  pub accepted_concept : (k : ℕ) → k < b.counts.concepts → ConceptRead s b k
  accepted_concept k m =
      let h = b.counts in
      let l = layout in
      let r = reached (ConceptWalk s h l.at) (one_concept s h l.at) (unroll_concepts s h l.at) h.concepts b.concepts l.start k l.trees m in
      let c = came (concept h k s r.here) _ r.taken r.next r.steps in
      let w = concept_within s h k r.here c.0 c.1 c.2 in
      let e = same_value (r.given ++ (tree_of s r.given c.0 ∷ [])) r.taken c.1 r.next c.3 in
      let front : (j : ℕ) → j < k → nth r.given j ≡ nth b.concepts j = trees_front s h l.at h.concepts b.concepts l.start k r.given r.here l.trees r.place (omega arith) in
      let seam : nth r.taken k ≡ tree_of s r.given c.0 = ap (λ (x : List Concept). nth x k) (sym e.0) ∙ get_or_at r.given (tree_of s r.given c.0) [] Concept.Top k (trees_count s h l.at k r.given r.here r.place) in
      let here : nth r.taken k ≡ nth b.concepts k = trees_front s h l.at h.concepts b.concepts l.start (suc k) r.taken r.next l.trees r.then (omega arith) k (omega arith) in
      record {
        expr = c.0;
        next = c.1;
        read = rw (offset_is k r.here r.given r.place) c.2;
        within = w;
        tree = sym here ∙ (seam ∙ tree_same s h k r.given b.concepts front c.0 w);
      }

-- what the answer of the check says of the decoded book
module _ (s : List ℕ) (offsets : List ℕ) (r : Result (Counts × ℕ) Refusal) (checked : BookChecked s r offsets) where
  answered : (d : Decoded) → decode s ≡ d → (h : Counts) (start : ℕ) → check_of s d ≡ value h start → (b : Book) × (decode s ≡ accepted b) × (b.counts ≡ h) × (start ≡ concept_offset s b.counts.concepts)
  answered (accepted b) e h start t = let q = same_value b.counts h (concept_offset s b.counts.concepts) start t in (b, e, q.0, sym q.1)
  answered (refused n) e h start t = no_value n h start t

  pub checked_accepted : (h : Counts) (start : ℕ) → r ≡ Ok (h, start) → (b : Book) × (decode s ≡ accepted b) × (b.counts ≡ h) × (start ≡ concept_offset s b.counts.concepts)
  checked_accepted h start e = answered (decode s) refl h start (sym checked.answer ∙ ap as_read e)

  declined : (n : ℕ) (d : Decoded) → check_of s d ≡ refusal n → d ≡ refused n
  declined n (accepted b) t = no_value n b.counts (concept_offset s b.counts.concepts) (sym t)
  declined n (refused m) t = let q : m ≡ n = cc in ap refused q

  pub checked_refused : (e : Refusal) → r ≡ Err e → decode s ≡ refused (number e)
  checked_refused e f = declined (number e) (decode s) (sym checked.answer ∙ ap as_read f)
