-- The answer is the effect.
use Rattle.std.specs.Prelude.{None}
use Prim.Native.Nat.{ℕ, zero, suc, ◌-◌, ◌*◌, ◌<◌, ◌≤◌}
use native.Mathlib.Decide.{dec_lt}
use native.Mathlib.Omega.{arith}
use mathlib.Core.Path.{◌≡◌, refl, ap, sym, ◌∙◌, subst, fun_ext}
use mathlib.Core.Bool.{Bool, true, false, not, ◌&&◌, ◌||◌, and-false}
use mathlib.Core.List.{List, [], ◌∷◌, ◌++◌}
use lib.ListN.{length}
use lib.Dec.{ltb}
use borrow.Author.Tests.{le-ltb}
use Rattle.book.specs.Read.{pick, Read}
use Rattle.book.specs.Statement.{bodies}
use Rattle.book.specs.Within.{Every, Within}
use Rattle.book.specs.Book.{Book, accepted, decode}
use Rattle.book.specs.declared.header.Counts.{Counts}
use Rattle.book.specs.declared.statement.Statement.{Statement}
use Rattle.rules.specs.Fact.{Two, Three, two}
use Rattle.rules.specs.Rule.{Set}
use Rattle.rules.specs.Meaning.{conclusions}
use Rattle.rules.specs.Lists.{gather, only, types, edges, pairs, used, entries2, entries3, filled}
use Rattle.rules.specs.Clash.{clashes}
use Rattle.rules.specs.Same.{same_pair}
use Rattle.rules.specs.Ends.{End, Refused, Spent, Clash, Finished, Outcome, cleared, listing, outcome_from, outcome_of, outcome}
use Rattle.rules.specs.Applied.{In}
use Rattle.rules.specs.Spoken.{anyone}
use Rattle.rules.proofs.Inside.{Inside, accepted_inside}
use Rattle.rules.proofs.Members.{conclusions_same, outcome_same}
use Rattle.rules.proofs.Spoken.{heedings_all, outcome_all}
use Rattle.rules.proofs.Ended.{IsFinished, ends_finished, accepted_book, types_length, edges_length, pairs_length}
use Rattle.tables.proofs.Open.{whole}
use Rattle.tables.specs.Open.{book_of, book_with, size_of, Open}
use Rattle.said.specs.Layout.{layout_of}
use Rattle.rounds.specs.View.{held}
use Rattle.verdict.specs.Verdict.{clash_in}
use Rattle.verdict.specs.declared.end.End.{End as Answer}
use Rattle.verdict.specs.declared.end.End.TheVariants as answer
use Rattle.verdict.specs.Conclude.{end_of, came}
use Rattle.heed.specs.declared.names.Names.{Names}
use Rattle.saturation.specs.Run.{heard, heard_book, outcome_on, Admitted, Drawn}
use Rattle.saturation.proofs.Ending.{drawn_spent}
use Rattle.saturation.proofs.run.Closing.{heard_within, heard_inside}
use Rattle.saturation.proofs.saturate.Answers.{heard_outcome}
use Rattle.effect.specs.Copy.{copied, one_record, larger, with_record}
use Rattle.effect.specs.Effect.{had, less, news, difference, Effect, on_finished, effect}
use Rattle.effect.proofs.Kept.{conclusions_more}
use Rattle.effect.proofs.Difference.{difference_same, difference_news}
use Rattle.effect.proofs.Copied.{copied_is}
use Rattle.rules.proofs.Engine.{run_closed, run_used}
use Rattle.rules.proofs.Tests.{every_append}
use Rattle.saturation.proofs.Entering.{bodies_append}
use Rattle.whatif.specs.Minus.{minus, Filled, same2, same3, lessened}
use Rattle.whatif.specs.Begun.{with_read, Finishes}
use Rattle.whatif.specs.Answer.{effect_by, stayed}
use Rattle.whatif.proofs.Listed.{types_less, edges_less, pairs_less}

-- ---- ends

pub answer_finished : (r : Answer) (a b c : ℕ) → end_of r ≡ Finished a b c → r ≡ answer.Finished a b c
answer_finished (answer.Finished t e p) a b c q = let x : t ≡ a = cc in let y : e ≡ b = cc in let z : p ≡ c = cc in cc
answer_finished (answer.Clash t e) a b c q = absurd (let o : ◌≡◌ {A = ℕ} 0 1 = cc in omega arith)
answer_finished answer.Spent a b c q = absurd (let o : ◌≡◌ {A = ℕ} 0 1 = cc in omega arith)
answer_finished (answer.Refused n) a b c q = absurd (let o : ◌≡◌ {A = ℕ} 0 1 = cc in omega arith)

pub on_finished_lem : (e : End) (a b : Effect) → Finishes e → on_finished e a b ≡ b
on_finished_lem e a b f = ap (λ (x : End). on_finished x a b) f.3

pub on_other : (e : End) (a b : Effect) → (Finishes e → ⊥) → on_finished e a b ≡ a
on_other (Refused n) a b f = refl
on_other Spent a b f = refl
on_other (Clash x y) a b f = refl
on_other (Finished t k p) a b f = absurd (f (t, k, p, refl))

-- a run that finished listed its facts
pub filled_by : (ts es ps : List ℕ) (B : Book) (S : Set) (budget : ℕ) (r : Answer) (ts' es' ps' : List ℕ) (o : Outcome) → came r ts' es' ps' ≡ o → IsFinished ts es ps B S budget o
    → Filled r ts' es' ps' (types B S) (edges B S) (pairs B S)
filled_by ts es ps B S budget r ts' es' ps' o e f =
    let q : came r ts' es' ps' ≡ listing ts es ps B S = e ∙ f.lists in
    let t : length ts' ≡ length ts = ap (λ (x : Outcome). length x.types) e ∙ types_length ts es ps B S budget o f in
    let k : length es' ≡ length es = ap (λ (x : Outcome). length x.edges) e ∙ edges_length ts es ps B S budget o f in
    let p : length ps' ≡ length ps = ap (λ (x : Outcome). length x.pairs) e ∙ pairs_length ts es ps B S budget o f in
    record {
      end = answer_finished r (length (types B S)) (length (edges B S)) (length (pairs B S)) (ap (λ (x : Outcome). x.end) q);
      types = ap (λ (x : Outcome). x.types) q ∙ ap (filled (entries2 (types B S))) (sym t);
      edges = ap (λ (x : Outcome). x.edges) q ∙ ap (filled (entries3 (edges B S))) (sym k);
      pairs = ap (λ (x : Outcome). x.pairs) q ∙ ap (filled (entries2 (pairs B S))) (sym p);
    }

-- a run that finished was within the budget
pub finished_few : {h : Counts} {B : Book} → Inside B → B.counts ≡ h → {budget : ℕ} {S L K t : List ℕ} {u : ℕ} {b : Bool} → Drawn h B budget S L K t u b → (ts es ps : List ℕ) → Finishes (outcome_on B budget ts es ps).end → u ≤ budget
finished_few {h} {B} inside counts {budget} {S} {L} {K} {t} {u} d ts es ps f = go (dec_lt budget u)
  where
    go : Dec (budget < u) → u ≤ budget
    go (yes l) = absurd (let q : Spent ≡ Finished f.0 f.1 f.2 = sym (ap (λ (x : Outcome). x.end) (drawn_spent inside counts d ts es ps l)) ∙ f.3 in let o : ◌≡◌ {A = ℕ} 0 1 = cc in omega arith)
    go (no l) = omega arith

-- ---- no facts

less_none : (l : List ℕ) → length l - 0 ≡ length l
less_none l = omega arith

not_both : (b : Bool) → (b && not b) ≡ false
not_both true = refl
not_both false = refl

gather_none : {A : Type 0} (n : ℕ) (f : ℕ → List A) → ((i : ℕ) → f i ≡ []) → gather n f ≡ []
gather_none zero f e = refl
gather_none (suc n) f e = rw (gather_none n f e, e n) refl

no_types : (B : Book) → types B (λ f. false) ≡ []
unfolding types
no_types B = gather_none B.counts.individuals _ (λ i. gather_none B.counts.classes _ (λ c. refl))

no_edges : (B : Book) → edges B (λ f. false) ≡ []
unfolding edges
no_edges B = gather_none B.counts.roles _ (λ r. gather_none B.counts.individuals _ (λ a. gather_none B.counts.individuals _ (λ b. refl)))

no_pairs : (B : Book) → pairs B (λ f. false) ≡ []
unfolding pairs same_pair
no_pairs B = gather_none B.counts.individuals _ (λ i. gather_none B.counts.individuals _ (λ j. ap (λ (b : Bool). only b (two i j)) (and-false (ltb i j))))

-- ---- the copy

module _ {s : List ℕ} {h : Counts} {offsets : List ℕ} (o : Open s h offsets) (y : Statement) (new : Within h y.body) (inside : Inside (larger (book_of s) y)) where
  abbrev B : Book
  B = book_of s

  abbrev C : Book
  C = larger (book_of s) y

  abbrev zs : List Statement
  zs = (book_of s).statements ++ (y ∷ [])

  all_heard : heard anyone s ≡ (book_of s).statements
  all_heard = heedings_all (book_of s).statements

  within : Every (Within h) (bodies (heard anyone s ++ (y ∷ [])))
  within = subst (Every (Within h)) (sym (bodies_append (heard anyone s) (y ∷ []))) (every_append (Within h) (bodies (heard anyone s)) (y.body ∷ []) (heard_within anyone o) (new, tt))

  -- the book that goes on keeps to its own numbers
  pub copy_inside : Inside (book_with s (heard anyone s ++ (y ∷ [])))
  copy_inside = let i = accepted_inside s (book_of s) (whole o) in record { limits = i.limits; concepts = i.concepts; statements = subst (λ (g : Counts). Every (Within g) (bodies (heard anyone s ++ (y ∷ [])))) (sym o.counts) within }

  copy_same : conclusions C ≡ conclusions (book_with s zs)
  copy_same = conclusions_same (book_with s zs) (length zs) zs (λ P k. k) (λ P k. k) (subst (λ (l : List Statement). Inside (book_with s (l ++ (y ∷ [])))) all_heard copy_inside) inside

  module _ {budget : ℕ} {us fs : List ℕ} (qs : List ℕ) (a : Admitted budget us fs) where
    -- its run is that of the copy
    pub copy_run : outcome_on (book_with s (heard anyone s ++ (y ∷ []))) budget us fs qs ≡ outcome_of (accepted (larger (book_of s) y)) budget us fs qs
    copy_run =
        ap (λ (l : List Statement). outcome_on (book_with s (l ++ (y ∷ []))) budget us fs qs) all_heard
        ∙ sym (accepted_book us fs qs (accepted C) budget a.low a.edges a.types C refl
        ∙ (ap (λ (X : Set). outcome_from C X budget us fs qs) copy_same ∙ outcome_same (book_with s zs) (length zs) zs (λ P k. k) (λ P k. k) (conclusions (book_with s zs)) budget us fs qs))

    -- what it listed, without what the present run did
    module _ (first last rest : Answer) (ts' es' ps' us' fs' qs' us'' fs'' qs'' : List ℕ)
        (present : Filled first ts' es' ps' (types (book_of s) (conclusions (book_of s))) (edges (book_of s) (conclusions (book_of s))) (pairs (book_of s) (conclusions (book_of s))))
        (ran : came last us' fs' qs' ≡ outcome_on (book_with s (heard anyone s ++ (y ∷ []))) budget us fs qs)
        (other : ((t e p : ℕ) → last ≡ answer.Finished t e p → ⊥) → came rest us'' fs'' qs'' ≡ came last us' fs' qs')
        (both : (T : List Two) (E : List Three) (P : List Two) (U : List Two) (F : List Three) (Q : List Two) → Filled first ts' es' ps' T E P → Filled last us' fs' qs' U F Q → came rest us'' fs'' qs'' ≡ lessened T E P U F Q us' fs' qs') where
      abbrev X : Set
      X = conclusions (larger (book_of s) y)

      abbrev O : Set
      O = conclusions (book_of s)

      run : came last us' fs' qs' ≡ outcome_of (accepted (larger (book_of s) y)) budget us fs qs
      run = ran ∙ copy_run

      more : In O X
      more = conclusions_more (book_of s) y (accepted_inside s (book_of s) (whole o)) inside

      few : (book_of s).counts.individuals ≤ 512
      few = omega (arith, (accepted_inside s (book_of s) (whole o)).limits.individuals_top)

      few_classes : (book_of s).counts.classes ≤ 512
      few_classes = omega (arith, (accepted_inside s (book_of s) (whole o)).limits.classes_top)

      -- as the copy has the same numbers, the lists of the present facts are those over its numbers
      types_same : types B O ≡ types C O
      unfolding types
      types_same = refl

      edges_same : edges B O ≡ edges C O
      unfolding edges
      edges_same = refl

      pairs_same : pairs B O ≡ pairs C O
      unfolding pairs
      pairs_same = refl

      finishes : (t e p : ℕ) → last ≡ answer.Finished t e p → came rest us'' fs'' qs'' ≡ difference (accepted (larger (book_of s) y)) O budget us fs qs
      finishes t e p q =
          let ended : (outcome_of (accepted C) budget us fs qs).end ≡ Finished t e p = sym (ap (λ (x : Outcome). x.end) run) ∙ ap end_of q in
          let f = ends_finished us fs qs (accepted C) budget C refl t e p ended in
          let listed = filled_by us fs qs C X budget last us' fs' qs' (outcome_of (accepted C) budget us fs qs) run f in
          let u : length us' ≡ length us = ap (λ (x : Outcome). length x.types) run ∙ types_length us fs qs C X budget _ f in
          let v : length fs' ≡ length fs = ap (λ (x : Outcome). length x.edges) run ∙ edges_length us fs qs C X budget _ f in
          let w : length qs' ≡ length qs = ap (λ (x : Outcome). length x.pairs) run ∙ pairs_length us fs qs C X budget _ f in
          let nt : minus same2 (types C X) (types B O) ≡ types C (less X O) = ap (minus same2 (types C X)) types_same ∙ sym (types_less C X O more few_classes) in
          let ne : minus same3 (edges C X) (edges B O) ≡ edges C (less X O) = ap (minus same3 (edges C X)) edges_same ∙ sym (edges_less C X O more few) in
          let np : minus same2 (pairs C X) (pairs B O) ≡ pairs C (less X O) = ap (minus same2 (pairs C X)) pairs_same ∙ sym (pairs_less C X O more few) in
          both (types B O) (edges B O) (pairs B O) (types C X) (edges C X) (pairs C X) present listed
          ∙ (rw (nt, ne, np, u, v, w) refl ∙ sym (difference_news O budget us fs qs (accepted C) C refl t e p ended))

      ends : ((t e p : ℕ) → last ≡ answer.Finished t e p → ⊥) → came rest us'' fs'' qs'' ≡ difference (accepted (larger (book_of s) y)) O budget us fs qs
      ends n = other n ∙ (run ∙ sym (difference_same O budget us fs qs (accepted C) (λ t e p q. n t e p (answer_finished last t e p (ap (λ (x : Outcome). x.end) run ∙ q)))))

      pub copy_difference : came rest us'' fs'' qs'' ≡ difference (accepted (larger (book_of s) y)) (conclusions (book_of s)) budget us fs qs
      copy_difference = go last refl
        where
          go : (z : Answer) → last ≡ z → came rest us'' fs'' qs'' ≡ difference (accepted (larger (book_of s) y)) O budget us fs qs
          go (answer.Finished t e p) q = finishes t e p q
          go (answer.Clash t e) q = ends (λ a b c r. absurd (let k : answer.Clash t e ≡ answer.Finished a b c = sym q ∙ r in let o : ◌≡◌ {A = ℕ} 0 1 = cc in omega arith))
          go answer.Spent q = ends (λ a b c r. absurd (let k : answer.Spent ≡ answer.Finished a b c = sym q ∙ r in let o : ◌≡◌ {A = ℕ} 0 1 = cc in omega arith))
          go (answer.Refused n) q = ends (λ a b c r. absurd (let k : answer.Refused n ≡ answer.Finished a b c = sym q ∙ r in let o : ◌≡◌ {A = ℕ} 0 1 = cc in omega arith))

    -- where nothing moved
    module _ {S L K t S' K' t' : List ℕ} {u u' : ℕ} {b b' : Bool} (was : Drawn h (heard_book anyone s) budget S L K t u b) (few : u ≤ budget)
        (now : Drawn h (book_with s (heard anyone s ++ (y ∷ []))) budget S' L K' t' u' b') (still : (u' ≡ u) × (held (size_of h) K' t' ≡ held (size_of h) K t))
        (first : Answer) (ts' es' ps' : List ℕ)
        (present : Filled first ts' es' ps' (types (book_of s) (conclusions (book_of s))) (edges (book_of s) (conclusions (book_of s))) (pairs (book_of s) (conclusions (book_of s)))) where
      abbrev P : Set
      P = conclusions (book_of s)

      abbrev D : Book
      D = book_with s (heard anyone s ++ (y ∷ []))

      abbrev x : Bool
      x = clash_in (layout_of h) t' S' L || b'

      few' : u' ≤ budget
      few' = omega (arith, still.0)

      now_is : held (size_of h) K' t' ≡ conclusions D
      now_is = run_closed D copy_inside (held (size_of h) K' t') u' now.reached (now.closed few')

      was_is : held (size_of h) K t ≡ conclusions (book_of s)
      was_is = run_closed (heard_book anyone s) (heard_inside anyone o) (held (size_of h) K t) u was.reached (was.closed few) ∙ ap (λ (l : List Statement). conclusions (book_with s l)) all_heard

      held_is : held (size_of h) K' t' ≡ conclusions (book_of s)
      held_is = still.1 ∙ was_is

      same_facts : conclusions D ≡ conclusions (book_of s)
      same_facts = sym now_is ∙ held_is

      abbrev clashed : Outcome
      clashed = cleared us fs qs (Clash (length (types (book_of s) (conclusions (book_of s)))) (length (edges (book_of s) (conclusions (book_of s)))))

      abbrev kept : Outcome
      kept = pick (ltb (length qs) (2 * length (pairs (book_of s) (conclusions (book_of s))))) (cleared us fs qs (Refused 11)) (listing us fs qs (book_of s) (conclusions (book_of s)))

      spare : used D (conclusions (book_of s)) ≤ budget
      spare = omega (arith, few', run_used D copy_inside (held (size_of h) K' t') u' now.reached (now.closed few') ∙ ap (used D) held_is)

      shows : clashes D (conclusions (book_of s)) ≡ x
      shows = ap (clashes D) (sym held_is) ∙ sym (now.clash few')

      ran : outcome_on D budget us fs qs ≡ pick x clashed kept
      unfolding outcome_from types edges pairs
      ran = ap (λ (X : Set). outcome_from D X budget us fs qs) same_facts ∙ rw (le-ltb budget (used D (conclusions (book_of s))) spare, shows) refl

      still_run : outcome_of (accepted (larger (book_of s) y)) budget us fs qs ≡ pick x clashed kept
      still_run = sym copy_run ∙ ran

      copy_facts : conclusions C ≡ conclusions (book_of s)
      copy_facts = copy_same ∙ (ap (λ (l : List Statement). conclusions (book_with s (l ++ (y ∷ [])))) (sym all_heard) ∙ same_facts)

      nothing : less (conclusions C) (conclusions (book_of s)) ≡ (λ f. false)
      nothing = ap (λ (X : Set). less X (conclusions (book_of s))) copy_facts ∙ fun_ext (λ f. not_both (conclusions (book_of s) f))

      empty : news us fs qs C (conclusions C) (conclusions (book_of s)) ≡ cleared us fs qs (Finished 0 0 0)
      empty = ap (listing us fs qs C) nothing ∙ rw (no_types C, no_edges C, no_pairs C) (rw (less_none us, less_none fs, less_none qs) refl)

      unfinished : (e : End) (l : Outcome) → outcome_of (accepted C) budget us fs qs ≡ l → l.end ≡ e → ((n m k : ℕ) → e ≡ Finished n m k → ⊥) → difference (accepted C) P budget us fs qs ≡ l
      unfinished e l q r w = difference_same P budget us fs qs (accepted C) (λ n m k z. w n m k (sym r ∙ (sym (ap (λ (c : Outcome). c.end) q) ∙ z))) ∙ q

      ends_so : (v w : Bool) → x ≡ v → ltb (length qs) (2 * length (pairs (book_of s) (conclusions (book_of s)))) ≡ w
          → stayed x (Finished (length (types (book_of s) P)) (length (edges (book_of s) P)) (length (pairs (book_of s) P))) us fs qs ≡ difference (accepted (larger (book_of s) y)) P budget us fs qs
      ends_so true w e f = rw e (sym (unfinished _ clashed (still_run ∙ rw e refl) refl (λ n m k z. let j : ◌≡◌ {A = ℕ} 0 1 = cc in omega arith)))
      ends_so false true e f = rw (e, f) (sym (unfinished _ (cleared us fs qs (Refused 11)) (still_run ∙ rw (e, f) refl) refl (λ n m k z. let j : ◌≡◌ {A = ℕ} 0 1 = cc in omega arith)))
      ends_so false false e f =
          let q : outcome_of (accepted C) budget us fs qs ≡ listing us fs qs (book_of s) P = still_run ∙ rw (e, f) refl in
          rw (e, f) (sym (difference_news P budget us fs qs (accepted C) C refl _ _ _ (ap (λ (c : Outcome). c.end) q) ∙ empty))

      pub still_difference : (last : Answer) (us' fs' qs' : List ℕ) → came last us' fs' qs' ≡ stayed (clash_in (layout_of h) t' S' L || b') (end_of first) us fs qs
          → came last us' fs' qs' ≡ difference (accepted (larger (book_of s) y)) (conclusions (book_of s)) budget us fs qs
      still_difference last us' fs' qs' e = e ∙ (ap (λ (c : Answer). stayed x (end_of c) us fs qs) present.end ∙ ends_so x (ltb (length qs) (2 * length (pairs (book_of s) P))) refl refl)

-- ---- the whole

-- no reader and no day
abbrev pub nobody : Names
nobody = record { reader = None; day = None }

pub present_run : {s : List ℕ} {h : Counts} {offsets : List ℕ} → Open s h offsets → {budget : ℕ} {ts es : List ℕ} (ps : List ℕ) → Admitted budget ts es → outcome_on (heard_book anyone s) budget ts es ps ≡ outcome s budget ts es ps
present_run {s} o {budget} {ts} {es} ps a = heard_outcome nobody (λ r e. absurd (let k : ◌≡◌ {A = ℕ} 0 1 = cc in omega arith)) ps a o ∙ outcome_all s budget ts es ps

-- the present facts are those of the present run
pub present_finished : {s : List ℕ} {h : Counts} {offsets : List ℕ} → Open s h offsets → {budget : ℕ} {ts es : List ℕ} (ps : List ℕ) → Admitted budget ts es → Finishes (outcome_on (heard_book anyone s) budget ts es ps).end
    → IsFinished ts es ps (book_of s) (conclusions (book_of s)) budget (outcome_on (heard_book anyone s) budget ts es ps)
present_finished {s} o {budget} {ts} {es} ps a f =
    subst (IsFinished ts es ps (book_of s) (conclusions (book_of s)) budget) (sym (present_run o ps a))
    (ends_finished ts es ps (decode s) budget (book_of s) (whole o) f.0 f.1 f.2 (ap (λ (x : Outcome). x.end) (sym (present_run o ps a)) ∙ f.3))

pub effect_is : {s : List ℕ} (x : List ℕ) {h : Counts} {offsets : List ℕ} → Open s h offsets → {budget : ℕ} {ts es : List ℕ} (ps us fs qs : List ℕ) → Admitted budget ts es → (r : Read Statement) → r ≡ one_record h x 0
    → effect_by (outcome_on (heard_book anyone s) budget ts es ps) (with_read (book_of s) r) (conclusions (book_of s)) budget us fs qs ≡ effect s x budget ts es ps us fs qs
unfolding effect with_record
effect_is {s} x {h} o {budget} {ts} {es} ps us fs qs a r e =
    let copy : decode (copied s x) ≡ with_read (book_of s) r = copied_is s x (book_of s) (whole o) ∙ ap (with_read (book_of s)) (ap (λ (g : Counts). one_record g x 0) o.counts ∙ sym e) in
    let facts : had (decode s) ≡ conclusions (book_of s) = ap had (whole o) in
    rw (present_run o ps a, copy, facts) refl
