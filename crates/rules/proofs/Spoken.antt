-- Runs that name a reader or a day: demand 3 speaks of the book spoken of, and what does not count leaves no trace.
use Prim.Native.Nat.{ℕ, ◌*◌, ◌<◌, ◌≤◌}
use native.Mathlib.Omega.{arith}
use mathlib.Core.Path.{◌≡◌, refl, ap, sym, ◌∙◌, subst}
use mathlib.Core.Bool.{Bool, true, false, ◌&&◌}
use mathlib.Core.List.{List, [], ◌∷◌, ◌++◌}
use mathlib.Core.Logic.{◌⊎◌, inl, inr, ⊎_elim}
use lib.ListN.{length, length-append}
use lib.Dec.{ltb, eqb}
use borrow.Author.Tests.{eq-eqb, ne_eqb, lt-ltb, le-ltb, le-leb}
use Rattle.book.specs.Read.{pick}
use Rattle.book.specs.Header.{counting, SameCounts}
use Rattle.book.specs.Book.{Book, with_statements, Decoded, refused, accepted, decode, concept_bytes, restated}
use Rattle.book.specs.Within.{Every, StatementWithin}
use Rattle.book.specs.declared.statement.Statement.{Statement}
use Rattle.book.proofs.Accepted.{record_same, accepted_limits, accepted_statements, accepted_records}
use Rattle.book.proofs.Equal.{same_concepts}
use Rattle.book.proofs.Restated.{restated_decodes}
use Rattle.rules.specs.Brought.{from}
use Rattle.rules.specs.Lists.{only}
use Rattle.rules.specs.Ends.{Refused, Clash, Finished, untouched, outcome_of, outcome}
use Rattle.rules.specs.Demand.{Clashed, Demand}
use Rattle.rules.specs.Spoken.{Who, whoever, one, Day, Reader, anyone, anyone_on, readable, readable_by, in_force_lem, in_force_on, heeded, heedings, readables, spoken, spoken_of, admitted, decode_for, outcome_for}
use Rattle.rules.proofs.Inside.{Inside, accepted_inside}
use Rattle.rules.proofs.Demand.{demand_of}

-- a refused run says nothing of worlds
module _ (n budget : ℕ) (ts es ps : List ℕ) where
  pub refused_end : (k : ℕ) × ((outcome_of (refused n) budget ts es ps).end ≡ Refused k)
  unfolding outcome_of
  refused_end = go (ltb 1000000 budget) (ltb (length es) (3 * budget)) (ltb (length ts) (2 * budget))
    where
      go : (a b c : Bool) → (k : ℕ) × ((pick a (untouched ts es ps (Refused 1)) (pick b (untouched ts es ps (Refused 2)) (pick c (untouched ts es ps (Refused 3)) (untouched ts es ps (Refused n))))).end ≡ Refused k)
      go true b c = (1, refl)
      go false true c = (2, refl)
      go false false true = (3, refl)
      go false false false = (n, refl)

  not_finished : {A : Type 0} (t e p : ℕ) → (outcome_of (refused n) budget ts es ps).end ≡ Finished t e p → A
  not_finished t e p q = absurd (let z : Refused refused_end.0 ≡ Finished t e p = sym refused_end.1 ∙ q in let o : ◌≡◌ {A = ℕ} 0 1 = cc in omega arith)

  not_clashed : {A : Type 0} → Clashed (outcome_of (refused n) budget ts es ps).end → A
  not_clashed (t, e, q) = absurd (let z : Refused refused_end.0 ≡ Clash t e = sym refused_end.1 ∙ q in let o : ◌≡◌ {A = ℕ} 0 1 = cc in omega arith)

  refused_demand : (B : Book) → Demand B (outcome_of (refused n) budget ts es ps)
  refused_demand B =
      record {
        listed_true = λ t e p q. not_finished t e p q;
        clash_none = λ c. not_clashed c;
        plain_clash = λ plain x. ⊎_elim (λ f. not_finished f.0 f.1 f.2 f.3) (λ c. not_clashed c) x;
        plain_unlisted = λ plain t e p q. not_finished t e p q;
      }

pub heedings_length : (r : Reader) (xs : List Statement) → length (heedings r xs) ≤ length xs
unfolding heedings
heedings_length r [] = omega arith
heedings_length r (x ∷ xs) = omega (arith, length-append (only (heeded r x) x) (from xs λ y. only (heeded r y) y), one (heeded r x), heedings_length r xs)
  where
    one : (b : Bool) → length (only b x) ≤ 1
    one true = omega arith
    one false = omega arith

pub heedings_every : (r : Reader) (P Q : Statement → Type 0) → ((x : Statement) → P x → Q x) → (xs : List Statement) → Every P xs → Every Q (heedings r xs)
unfolding heedings
heedings_every r P Q f [] w = tt
heedings_every r P Q f (x ∷ xs) w = go (heeded r x) (heedings_every r P Q f xs w.1)
  where
    go : (b : Bool) → Every Q (from xs λ y. only (heeded r y) y) → Every Q (only b x ++ (from xs λ y. only (heeded r y) y))
    go true rest = (f x w.0, rest)
    go false rest = rest

module _ (r : Reader) (s : List ℕ) (B : Book) (book : decode s ≡ accepted B) where
  -- the statements that count are no more than a book has, and keep to its counts
  few : length (heedings r B.statements) ≤ 4096
  few = omega (arith, heedings_length r B.statements, accepted_statements s B book, (accepted_limits s B book).statements_top)

  within : Every (StatementWithin (spoken r B).counts) (heedings r B.statements)
  within = heedings_every r (StatementWithin B.counts) (StatementWithin (spoken r B).counts) (record_same B.counts (length (heedings r B.statements))) B.statements (accepted_records s B book)

  -- the book spoken of as bytes: the statements that do not count left out
  pub spoken_bytes : decode (restated s B (heedings r B.statements)) ≡ accepted (spoken r B)
  spoken_bytes = restated_decodes s B book (heedings r B.statements) few within

  -- so it keeps to its own numbers
  pub spoken_inside : Inside (spoken r B)
  spoken_inside = accepted_inside (restated s B (heedings r B.statements)) (spoken r B) spoken_bytes

  -- what a run works on: the book spoken of, or refusal 14 or 15
  pub decoded_for : (decode_for r s ≡ accepted (spoken r B)) ⊎ ((n : ℕ) × (decode_for r s ≡ refused n))
  unfolding decode_for
  decoded_for = go r.who (ap (spoken_of r) book)
    where
      table : (a b : Bool) (x y : Decoded) → x ≡ y → (pick a (refused 14) (pick b x (refused 15)) ≡ y) ⊎ ((n : ℕ) × (pick a (refused 14) (pick b x (refused 15)) ≡ refused n))
      table true b x y q = inr (14, refl)
      table false true x y q = inl q
      table false false x y q = inr (15, refl)

      go : (w : Who) {x y : Decoded} → x ≡ y → (admitted w x ≡ y) ⊎ ((n : ℕ) × (admitted w x ≡ refused n))
      go whoever e = inl e
      go (one k t) {x} {y} e = table (ltb 31 k) (eqb (length t) 1024) x y e

  -- DEMAND 3 of a run that names a reader or a day: it speaks of the book that holds only the statements that count
  pub demand_for : (budget : ℕ) (ts es ps : List ℕ) → Demand (spoken r B) (outcome_for r s budget ts es ps)
  demand_for budget ts es ps = go decoded_for
    where
      go : (decode_for r s ≡ accepted (spoken r B)) ⊎ ((n : ℕ) × (decode_for r s ≡ refused n)) → Demand (spoken r B) (outcome_for r s budget ts es ps)
      go (inl q) = demand_of (decode_for r s) budget ts es ps (spoken r B) q spoken_inside
      go (inr q) = subst (λ (x : Decoded). Demand (spoken r B) (outcome_of x budget ts es ps)) (sym q.1) (refused_demand q.0 budget ts es ps (spoken r B))

-- what is accepted for a reader or a day is a book spoken of
pub for_inside : (r : Reader) (s : List ℕ) (C : Book) → decode_for r s ≡ accepted C → Inside C
unfolding decode_for
for_inside r s C q = from_decoded (decode s) refl (from_admitted r.who q)
  where
    table : (a b : Bool) (x : Decoded) → pick a (refused 14) (pick b x (refused 15)) ≡ accepted C → x ≡ accepted C
    table true b x e = absurd (let o : ◌≡◌ {A = ℕ} 0 1 = cc in omega arith)
    table false true x e = e
    table false false x e = absurd (let o : ◌≡◌ {A = ℕ} 0 1 = cc in omega arith)

    from_admitted : (w : Who) {x : Decoded} → admitted w x ≡ accepted C → x ≡ accepted C
    from_admitted whoever e = e
    from_admitted (one k t) {x} e = table (ltb 31 k) (eqb (length t) 1024) x e

    from_decoded : (x : Decoded) → decode s ≡ x → spoken_of r x ≡ accepted C → Inside C
    from_decoded (refused n) e f = absurd (let o : ◌≡◌ {A = ℕ} 0 1 = cc in omega arith)
    from_decoded (accepted B) e f = subst Inside (let z : spoken r B ≡ C = cc in z) (spoken_inside r s B e)

-- a run that names neither takes all statements: it is the run of the book itself
pub heedings_all : (xs : List Statement) → heedings anyone xs ≡ xs
unfolding heedings heeded
heedings_all [] = refl
heedings_all (x ∷ xs) = ap (λ (l : List Statement). x ∷ l) (heedings_all xs)

counted : (s : List ℕ) (B : Book) → decode s ≡ accepted B → with_statements B B.statements ≡ B
counted s B book = ap (λ (n : ℕ). record { counts = counting B.counts n; concepts = B.concepts; statements = B.statements }) (accepted_statements s B book)

pub spoken_all : (s : List ℕ) (B : Book) → decode s ≡ accepted B → spoken anyone B ≡ B
spoken_all s B book = ap (with_statements B) (heedings_all B.statements) ∙ counted s B book

pub decode_all : (s : List ℕ) → decode_for anyone s ≡ decode s
unfolding decode_for
decode_all s = go (decode s) refl
  where
    go : (x : Decoded) → decode s ≡ x → spoken_of anyone x ≡ x
    go (refused n) q = refl
    go (accepted B) q = ap accepted (spoken_all s B q)

pub outcome_all : (s : List ℕ) (budget : ℕ) (ts es ps : List ℕ) → outcome_for anyone s budget ts es ps ≡ outcome s budget ts es ps
outcome_all s budget ts es ps = ap (λ (x : Decoded). outcome_of x budget ts es ps) (decode_all s)

-- refusals 14 and 15, in that order, on every book, whatever the day
module _ (s : List ℕ) (k : ℕ) (table : List ℕ) (d : Day) where
  pub decode_14 : 31 < k → decode_for (record { who = one k table; day = d }) s ≡ refused 14
  unfolding decode_for
  decode_14 l = rw (lt-ltb 31 k l) refl

  pub decode_15 : k ≤ 31 → (length table ≡ 1024 → ⊥) → decode_for (record { who = one k table; day = d }) s ≡ refused 15
  unfolding decode_for
  decode_15 l m = rw (le-ltb 31 k l, ne_eqb (length table) 1024 m) refl

-- what they leave: a reader below 32 with a word for each source, or none
abbrev pub Admits : Who → Type 0
Admits whoever = Unit {0}
Admits (one k table) = (k ≤ 31) × (length table ≡ 1024)

module _ (s : List ℕ) (r : Reader) (admits : Admits r.who) where
  pub decode_read : decode_for r s ≡ spoken_of r (decode s)
  unfolding decode_for
  decode_read = go r.who admits (spoken_of r (decode s))
    where
      go : (w : Who) → Admits w → (x : Decoded) → admitted w x ≡ x
      go whoever a x = refl
      go (one k table) a x = rw (le-ltb 31 k a.0, eq-eqb (length table) 1024 a.1) refl

  -- a faulty book is refused for every reader and on every day
  pub decode_fault : (n : ℕ) → decode s ≡ refused n → decode_for r s ≡ refused n
  decode_fault n e = decode_read ∙ ap (spoken_of r) e

  -- the end and the lists are those of the book with the statements left out that do not count, as bytes
  pub left_out : (B : Book) → decode s ≡ accepted B → (budget : ℕ) (ts es ps : List ℕ) → outcome_for r s budget ts es ps ≡ outcome (restated s B (heedings r B.statements)) budget ts es ps
  left_out B e budget ts es ps = ap (λ (x : Decoded). outcome_of x budget ts es ps) (decode_read ∙ (ap (spoken_of r) e ∙ sym (spoken_bytes r s B e)))

-- source 0 is open to all, whatever its word
pub shared_readable : (k : ℕ) (table : List ℕ) (x : Statement) → x.source ≡ 0 → readable k table x ≡ true
unfolding readable
shared_readable k table x e = rw (eq-eqb x.source 0 e) refl

-- a statement without days is in force on every day
pub undated_in_force : (d : ℕ) (x : Statement) → x.first ≡ 0 → x.last ≡ 65535 → d < 65536 → in_force_lem d x ≡ true
unfolding in_force_lem
undated_in_force d x e f l = let p : d ≤ x.last = omega arith in let q : x.first ≤ d = omega arith in rw (le-leb x.first d q, le-leb d x.last p) refl

-- so a book without days ends on every day as it does without one
pub undated_outcome : (d : ℕ) → d < 65536 → (s : List ℕ) (B : Book) → decode s ≡ accepted B → Every (λ x. (x.first ≡ 0) × (x.last ≡ 65535)) B.statements → (budget : ℕ) (ts es ps : List ℕ) → outcome_for (anyone_on d) s budget ts es ps ≡ outcome s budget ts es ps
unfolding heedings heeded
undated_outcome d l s B book every budget ts es ps =
    ap (λ (x : Decoded). outcome_of x budget ts es ps) (decode_read s (anyone_on d) tt ∙ (ap (spoken_of (anyone_on d)) book ∙ (ap accepted same ∙ sym book)))
  where
    all : (xs : List Statement) → Every (λ x. (x.first ≡ 0) × (x.last ≡ 65535)) xs → heedings (anyone_on d) xs ≡ xs
    all [] e = refl
    all (x ∷ xs) e = rw (undated_in_force d x e.0.0 e.0.1 l) (ap (λ (l : List Statement). x ∷ l) (all xs e.1))

    same : spoken (anyone_on d) B ≡ B
    same = ap (with_statements B) (all B.statements every) ∙ counted s B book

-- a loop over the statements takes them one by one
pub heedings_next : (r : Reader) (x : Statement) (xs : List Statement) → heedings r (x ∷ xs) ≡ only (heeded r x) x ++ heedings r xs
unfolding heedings
heedings_next r x xs = refl

-- those that count are those in force among the readable ones
module _ (r : Reader) where
  current : List Statement → List Statement
  current xs = from xs λ x. only (in_force_on r.day x) x

  current_readable : (xs : List Statement) → heedings r xs ≡ current (readables r.who xs)
  unfolding heedings readables heeded current
  current_readable [] = refl
  current_readable (x ∷ xs) = go (in_force_on r.day x) (readable_by r.who x) refl (current_readable xs)
    where
      go : (a b : Bool) → in_force_on r.day x ≡ a → heedings r xs ≡ current (readables r.who xs) → only (a && b) x ++ heedings r xs ≡ current (only b x ++ readables r.who xs)
      go true true e q = rw e (ap (λ (l : List Statement). x ∷ l) q)
      go false true e q = rw e q
      go true false e q = q
      go false false e q = q

  readable_heedings : (xs ys : List Statement) → readables r.who xs ≡ readables r.who ys → heedings r xs ≡ heedings r ys
  readable_heedings xs ys e = current_readable xs ∙ (ap current e ∙ sym (current_readable ys))

-- NON-INTERFERENCE. Two accepted books with equal header counts apart from statements and equal concept records: for one reader and table, on one day or
-- on none, with equal budget and lists, a run of the one has the end and the lists of a run of the other
module _ (r : Reader) (s t : List ℕ) (B C : Book) (first : decode s ≡ accepted B) (second : decode t ≡ accepted C) (counts : SameCounts B.counts C.counts) where
  same_spoken : heedings r B.statements ≡ heedings r C.statements → B.concepts ≡ C.concepts → spoken r B ≡ spoken r C
  same_spoken equal e = λ i. record {
    counts = record { classes = counts.classes i; roles = counts.roles i; individuals = counts.individuals i; concepts = counts.concepts i; statements = length (equal i) };
    concepts = e i;
    statements = equal i;
  }

  -- where equal statements count, in equal order, and the concepts are equal as trees, which equal records are
  pub same_outcomes : heedings r B.statements ≡ heedings r C.statements → B.concepts ≡ C.concepts → (budget : ℕ) (ts es ps : List ℕ) → outcome_for r s budget ts es ps ≡ outcome_for r t budget ts es ps
  unfolding decode_for
  same_outcomes equal e budget ts es ps = ap (λ (x : Decoded). outcome_of (admitted r.who x) budget ts es ps) (ap (spoken_of r) first ∙ (ap accepted (same_spoken equal e) ∙ sym (ap (spoken_of r) second)))

  pub no_trace : concept_bytes s B ≡ concept_bytes t C → heedings r B.statements ≡ heedings r C.statements → (budget : ℕ) (ts es ps : List ℕ) → outcome_for r s budget ts es ps ≡ outcome_for r t budget ts es ps
  no_trace e equal = same_outcomes equal (same_concepts s t B C first second counts e)

  -- and, as No. 9 says it, where equal statements are readable, in equal order, whatever their days
  pub no_trace_readable : concept_bytes s B ≡ concept_bytes t C → readables r.who B.statements ≡ readables r.who C.statements → (budget : ℕ) (ts es ps : List ℕ) → outcome_for r s budget ts es ps ≡ outcome_for r t budget ts es ps
  no_trace_readable e equal = no_trace e (readable_heedings r B.statements C.statements equal)
