-- The loops over concept records and statements, and the ways out of the check of a whole book.
use Prim.Native.Nat.{ℕ, zero, suc, ◌+◌, ◌≤◌, ◌<◌, zero-le}
use native.Mathlib.Omega.{arith}
use native.Mathlib.Decide.{dec_lt}
use mathlib.Core.Path.{◌≡◌, refl, sym, ap, ◌∙◌, subst}
use mathlib.Core.List.{List, [], ◌∷◌, ◌++◌}
use lib.ListN.{length, get_or, set, length-set}
use lib.Seq.{get_or-set_same, get_or-set_other}
use borrow.Author.Tests.{le-leb, lt-leb}
use Rattle.std.specs.Prelude.{Result, Ok, Err}
use Rattle.book.specs.declared.refusal.Refusal.{Refusal}
use Rattle.book.specs.declared.refusal.Refusal.TheVariants.{BytesBehind}
use Rattle.book.specs.declared.header.Counts.{Counts}
use Rattle.book.specs.declared.concept.ConceptExpr.{ConceptExpr}
use Rattle.book.specs.declared.statement.Statement.{Statement}
use Rattle.book.specs.Read.{Read, value, refusal, onward, as_read, as_passed, several}
use Rattle.book.specs.Field.{passed}
use Rattle.book.specs.Header.{header}
use Rattle.book.specs.Concept.{concept}
use Rattle.book.specs.Statement.{statement}
use Rattle.book.specs.Tree.{Concept, tree_of}
use Rattle.book.specs.Book.{Book, concepts, book, accepted, refused, decode, behind, concept_offset, passed_up_to, concepts_read, check_of, ConceptsPassed, BookChecked, StartsNoted, ConceptsLeft, OffsetsLeft}
use Rattle.book.proofs.Parsing.{no_value, passed_value, passed_refusal, walk_more, walk_refused, several_none, several_more, several_refused}

-- the concept records are a walk
module _ (s : List ℕ) (h : Counts) (at : ℕ) where
  abbrev pub Concepts : ℕ → Read (List Concept)
  Concepts k = concepts h k s at

  abbrev pub one_concept : ℕ → List Concept → ℕ → Read (List Concept)
  one_concept k ts here = onward (concept h k s here) λ c next. value (ts ++ (tree_of s ts c ∷ [])) next

  pub unroll_concepts : (k : ℕ) → Concepts (suc k) ≡ onward (Concepts k) (one_concept k)
  unfolding concepts
  unroll_concepts k = refl

  -- where the record of concept k starts
  abbrev pub record_start : ℕ → ℕ
  record_start k = behind (concepts h k s at)

  -- where the first k records are passed and every longer walk is refused, k records are before the first faulty one
  passed_up_to_lem : (k here n : ℕ) (ts : List Concept) → concepts h k s at ≡ value ts here → (m : ℕ) → k ≤ m → ((j : ℕ) → k < j → j ≤ m → concepts h j s at ≡ refusal n) → passed_up_to h m s at ≡ k
  unfolding passed_up_to
  passed_up_to_lem k here n ts e zero l f = omega arith
  passed_up_to_lem k here n ts e (suc m) l f = go (dec_lt k (suc m)) (passed_up_to_lem k here n ts e m)
    where
      go : Dec (k < suc m) → (k ≤ m → ((j : ℕ) → k < j → j ≤ m → concepts h j s at ≡ refusal n) → passed_up_to h m s at ≡ k) → passed_up_to h (suc m) s at ≡ k
      go (yes b) rest = simp (f (suc m) b (omega arith), rest (omega arith) (λ j x y. f j x (omega arith)))
      go (no b) rest =
          let q : k ≡ suc m = omega arith in
          let w : concepts h (suc m) s at ≡ value ts here = subst (λ (x : ℕ). concepts h x s at ≡ value ts here) q e in
          simp (w, q)

  -- the records below k are passed, and their starts are noted; all else is as before
  pub record ConceptsNoted (k here : ℕ) (before offsets : List ℕ) : Type 0 where
    pub trees : List Concept
    pub place : concepts h k s at ≡ value trees here
    pub left : StartsNoted k record_start before offsets
    pub top : k ≤ h.concepts

  pub none_noted : (offsets : List ℕ) → ConceptsNoted 0 at offsets offsets
  unfolding concepts
  none_noted offsets = record { trees = []; place = refl; left = record { len = refl; noted = λ j b. absurd (omega arith); kept = λ j b. refl }; top = zero-le }

  module _ (k here : ℕ) (before offsets : List ℕ) (i : ConceptsNoted k here before offsets) where
    starts : (j : ℕ) → j < k → j < length offsets → get_or offsets j 0 ≡ record_start j
    starts j b m = i.left.noted j b (omega (arith, i.left.len))

    module _ (n : ℕ) (read : refusal n ≡ concept h k s here) where
      refused_behind : (j : ℕ) → k < j → concepts h j s at ≡ refusal n
      refused_behind j l = walk_refused Concepts one_concept unroll_concepts k i.trees here n j i.place (simp (← read)) l

      pub concepts_refused : (r : Result ℕ Refusal) → k < h.concepts → as_passed r ≡ refusal n → ConceptsPassed s h at r offsets × ConceptsLeft s h at before offsets
      concepts_refused r l w =
          let q = refused_behind h.concepts l in
          let count = passed_up_to_lem k here n i.trees i.place h.concepts i.top (λ j b m. refused_behind j b) in (
            record { ends = w ∙ simp q; starts = λ e t j b m. no_value n tt e (sym w ∙ simp t) },
            subst (λ (m : ℕ). StartsNoted m record_start before offsets) (sym count) i.left,
          )

    module _ (x : ConceptExpr) (next : ℕ) (read : value x next ≡ concept h k s here) where
      again : k < h.concepts → ConceptsNoted (k + 1) next before (set offsets k here)
      again l =
          record {
            trees = i.trees ++ (tree_of s i.trees x ∷ []);
            place = walk_more Concepts one_concept unroll_concepts k i.trees here i.place ∙ simp (← read);
            left =
                record {
                  len = simp (length-set, i.left.len);
                  noted = λ j b m. start j b m (dec_lt j k);
                  kept =
                      λ j b.
                      let q : (j ≡ k → ⊥) = omega arith in
                      get_or-set_other offsets k j here 0 q ∙ i.left.kept j (omega arith);
                };
            top = omega arith;
          }
        where
          start : (j : ℕ) → j < k + 1 → j < length before → Dec (j < k) → get_or (set offsets k here) j 0 ≡ record_start j
          start j b m (yes l) =
              let q : (j ≡ k → ⊥) = omega arith in
              get_or-set_other offsets k j here 0 q ∙ i.left.noted j l m
          start j b m (no l) =
              let q : j ≡ k = omega arith in
              let fits : k < length offsets = omega (arith, i.left.len) in
              rw q (get_or-set_same offsets k here 0 fits ∙ sym (simp i.place))

      pub concepts_again : (noted : List ℕ) → k < h.concepts → noted ≡ set offsets k here → ConceptsNoted (k + 1) next before noted
      concepts_again noted l g = subst (ConceptsNoted (k + 1) next before) (sym g) (again l)

    pub concepts_done : h.concepts ≤ k → ConceptsPassed s h at (Ok here) offsets × ConceptsLeft s h at before offsets
    concepts_done l =
        let q : k ≡ h.concepts = omega (arith, i.top) in
        let w : concepts h h.concepts s at ≡ value i.trees here = subst (λ (x : ℕ). concepts h x s at ≡ value i.trees here) q i.place in
        let count = passed_up_to_lem k here 0 i.trees i.place h.concepts i.top (λ j b m. absurd (omega arith)) in (
          record { ends = sym (ap passed w); starts = λ e t j b m. starts j (omega arith) m },
          subst (λ (m : ℕ). StartsNoted m record_start before offsets) (sym count) i.left,
        )

-- the statements are a walk
module _ (s : List ℕ) (h : Counts) (at : ℕ) where
  abbrev pub StatementsPassed : ℕ → ℕ → Type 0
  StatementsPassed k here = (xs : List Statement) × (several (statement h) k s at ≡ value xs here)

  pub none_passed : StatementsPassed 0 at
  none_passed = ([], several_none (statement h) s at)

  module _ (k here : ℕ) (i : StatementsPassed k here) where
    pub statements_refused : (n count : ℕ) → k < count → refusal n ≡ statement h s here → refusal n ≡ passed (several (statement h) count s at)
    statements_refused n count l e = simp (several_refused (statement h) s at k i.0 here n count i.1 (sym e) l)

    pub statements_again : (x : Statement) (next : ℕ) → value x next ≡ statement h s here → StatementsPassed (k + 1) next
    statements_again x next e = (i.0 ++ (x ∷ []), several_more (statement h) s at k i.0 here x next i.1 (sym e))

  pub statements_done : (k here count : ℕ) → StatementsPassed k here → k ≤ count → count ≤ k → value tt here ≡ passed (several (statement h) count s at)
  statements_done k here count i l m = let q : count ≡ k = omega arith in rw q (simp i.1)

-- the check of a book
module _ (s offsets : List ℕ) where
  module _ (r : Result (Counts × ℕ) Refusal) (n : ℕ) (is : as_read r ≡ refusal n) where
    refuses : book s 0 ≡ refusal n → BookChecked s r offsets
    unfolding decode
    refuses e = record { answer = is ∙ simp e; starts = λ b t. absurd (let q : refused n ≡ accepted b = sym (simp e) ∙ t in let z : ◌≡◌ {A = ℕ} 0 1 = cc in omega arith) }

    pub book_headless : refusal n ≡ header s 0 → BookChecked s r offsets
    unfolding book
    book_headless e = refuses (simp (← e))

    module _ (h : Counts) (at : ℕ) (counted : value h at ≡ header s 0) where
      pub book_concepts : (p : Result ℕ Refusal) → ConceptsPassed s h at p offsets → as_passed p ≡ refusal n → BookChecked s r offsets
      unfolding book
      book_concepts p first f = refuses (simp (← counted, passed_refusal (concepts h h.concepts s at) n (sym first.ends ∙ f)))

      pub book_statements : (then : ℕ) → ConceptsPassed s h at (Ok then) offsets → refusal n ≡ passed (several (statement h) h.statements s then) → BookChecked s r offsets
      unfolding book
      book_statements then first f =
          let t = passed_value (concepts h h.concepts s at) then (sym first.ends) in
          refuses (simp (← counted, t.1, passed_refusal (several (statement h) h.statements s then) n (sym f)))

  module _ (h : Counts) (at : ℕ) (counted : value h at ≡ header s 0) (then : ℕ) (first : ConceptsPassed s h at (Ok then) offsets) (end : ℕ) (second : value tt end ≡ passed (several (statement h) h.statements s then)) where
    trees : (ts : List Concept) × (concepts h h.concepts s at ≡ value ts then)
    trees = passed_value (concepts h h.concepts s at) then (sym first.ends)

    statements : (xs : List Statement) × (several (statement h) h.statements s then ≡ value xs end)
    statements = passed_value (several (statement h) h.statements s then) end (sym second)

    pub book_longer : end < length s → BookChecked s (Err BytesBehind) offsets
    unfolding book
    book_longer l = refuses (Err BytesBehind) 10 refl (simp (← counted, trees.1, statements.1, lt-leb _ _ l))

    abbrev whole : Book
    whole = record { counts = h; concepts = trees.0; statements = statements.0 }

    pub book_accepted : length s ≤ end → BookChecked s (Ok (h, then)) offsets
    unfolding decode book concept_offset
    book_accepted l =
        let d : decode s ≡ accepted whole = simp (← counted, trees.1, statements.1, le-leb _ _ l) in
        record {
          answer = sym (ap (check_of s) d ∙ simp (← counted, trees.1));
          starts = λ b t k m room.
              let e : whole ≡ b = (let f : accepted whole ≡ accepted b = sym d ∙ t in cc) in
              let m' : k < h.concepts = subst (λ (x : Book). k < x.counts.concepts) (sym e) m in
              first.starts then refl k m' room ∙ simp (← counted);
        }

-- what the check leaves in the offsets
module _ (s : List ℕ) where
  pub left_headless : (offsets : List ℕ) (n : ℕ) → refusal n ≡ header s 0 → OffsetsLeft s offsets offsets
  unfolding concepts_read
  left_headless offsets n f =
      let e : concepts_read s ≡ 0 = simp (← f) in
      record { len = refl; noted = λ k b. absurd (omega arith); kept = λ k b. refl }

  pub left_counted : (before after : List ℕ) (h : Counts) (at : ℕ) → value h at ≡ header s 0 → ConceptsLeft s h at before after → OffsetsLeft s before after
  unfolding concepts_read concept_offset
  left_counted before after h at f left =
      let e : concepts_read s ≡ passed_up_to h h.concepts s at = simp (← f) in
      record {
        len = left.len;
        noted = λ k b m. left.noted k (rw e at b) m ∙ simp (← f);
        kept = λ k b. left.kept k (rw e at b);
      }
