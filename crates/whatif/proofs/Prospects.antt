-- The answer for each way out of the present run.
use Prim.Native.Nat.{ℕ, ◌+◌, ◌*◌, ◌<◌, ◌≤◌}
use native.Mathlib.Omega.{arith}
use mathlib.Core.Path.{◌≡◌, refl, ap, sym, ◌∙◌, subst}
use mathlib.Core.Bool.{Bool, true, false, ◌||◌}
use mathlib.Core.List.{List, [], ◌∷◌, ◌++◌}
use lib.ListN.{length}
use lib.Dec.{leb}
use borrow.Author.Tests.{lt-ltb}
use Rattle.book.specs.Read.{Read, value, refusal, onward, unless}
use Rattle.book.specs.Statement.{statement}
use Rattle.book.proofs.statement.Laws.{statement_within}
use Rattle.book.specs.Within.{Within}
use Rattle.book.specs.Book.{Decoded, accepted, decode}
use Rattle.book.specs.declared.header.Counts.{Counts}
use Rattle.book.specs.declared.statement.Statement.{Statement}
use Rattle.rules.specs.Fact.{Two, Three}
use Rattle.rules.specs.Meaning.{conclusions}
use Rattle.rules.specs.Lists.{types, edges, pairs}
use Rattle.rules.specs.Ends.{Refused, Finished, Outcome, ends_with, untouched, outcome_of, outcome}
use Rattle.book.specs.Reader.{rest}
use Rattle.rules.specs.Spoken.{anyone, heedings}
use Rattle.denial.specs.Denied.{denied_of}
use Rattle.rules.proofs.Inside.{Inside, accepted_inside}
use Rattle.rules.proofs.Ended.{ends_finished}
use Rattle.tables.proofs.Open.{whole}
use Rattle.tables.specs.Open.{book_of, book_with, size_of, Open}
use Rattle.rounds.specs.View.{held}
use Rattle.verdict.specs.Verdict.{clash_in}
use Rattle.said.specs.Layout.{layout_of, total_rows}
use Rattle.verdict.specs.declared.end.End.{End as Answer}
use Rattle.verdict.specs.declared.end.End.TheVariants as answer
use Rattle.verdict.specs.Conclude.{end_of, came}
use Rattle.saturation.specs.Run.{heard, heard_book, outcome_on, Admitted, Drawn, Worked}
use Rattle.saturation.proofs.run.Closing.{heard_within, heard_inside}
use Rattle.effect.specs.Copy.{copied, one_record, larger, with_record}
use Rattle.effect.specs.Effect.{Effect, had, difference, news, by_itself, followed, on_finished, effect}
use Rattle.effect.proofs.Copied.{copied_is}
use Rattle.whatif.specs.Minus.{Filled, lessened}
use Rattle.whatif.specs.Further.{Ongoing}
use Rattle.whatif.specs.Begun.{with_read, Finishes, Begun}
use Rattle.whatif.specs.Answer.{gave, effect_by, stayed, prospect}
use Rattle.std.specs.Prelude.{Option, Some, None, Result, Ok, Err, IsErrAnd}
use Rattle.book.specs.Refusal.{number}
use Rattle.book.specs.declared.refusal.Refusal.{Refusal}
use Rattle.whatif.specs.declared.answer.Prospect.{Prospect}
use Rattle.whatif.proofs.Answering.{on_finished_lem, on_other, filled_by, finished_few, copy_run, copy_difference, still_difference, present_finished}

module _ {s : List ℕ} {h : Counts} {offsets : List ℕ} (o : Open s h offsets) (read : Read Statement) {budget : ℕ} {ts es : List ℕ} (ps : List ℕ) (a : Admitted budget ts es) (us fs qs : List ℕ)
    (first : Answer) (ts' es' ps' : List ℕ) (ran : came first ts' es' ps' ≡ outcome_on (heard_book anyone s) budget ts es ps) {step : Option (Result Statement Refusal)} (begun : Begun (end_of first) h.statements budget read (length fs) (length us) step) where
  abbrev O : Outcome
  O = outcome_on (heard_book anyone s) budget ts es ps

  end_is : end_of first ≡ (outcome_on (heard_book anyone s) budget ts es ps).end
  end_is = ap (λ (x : Outcome). x.end) ran

  pub answer_alone : step ≡ None → gave (record { present = first; copy = None }) ts' es' ps' us fs qs ≡ effect_by (outcome_on (heard_book anyone s) budget ts es ps) (with_read (book_of s) read) (conclusions (book_of s)) budget us fs qs
  answer_alone q =
      ap (λ (x : Outcome). by_itself x us fs qs) ran
      ∙ sym (on_other O.end (by_itself O us fs qs) (followed O (difference (with_read (book_of s) read) (conclusions (book_of s)) budget us fs qs)) (λ f. begun.alone q (f.0, f.1, f.2, end_is ∙ f.3)))

  finishes : Finishes (end_of first) → Finishes (outcome_on (heard_book anyone s) budget ts es ps).end
  finishes f = (f.0, f.1, f.2, sym end_is ∙ f.3)

  follows : (c : Outcome) → Finishes (end_of first) → difference (with_read (book_of s) read) (conclusions (book_of s)) budget us fs qs ≡ c
      → followed (came first ts' es' ps') c ≡ effect_by (outcome_on (heard_book anyone s) budget ts es ps) (with_read (book_of s) read) (conclusions (book_of s)) budget us fs qs
  follows c f e =
      ap (λ (x : Outcome). followed x c) ran
      ∙ (ap (followed O) (sym e) ∙ sym (on_finished_lem O.end (by_itself O us fs qs) (followed O (difference (with_read (book_of s) read) (conclusions (book_of s)) budget us fs qs)) (finishes f)))

  pub answer_refused : (k : Refusal) → step ≡ Some (Err k) → gave (record { present = first; copy = Some (answer.Refused k) }) ts' es' ps' us fs qs ≡ effect_by (outcome_on (heard_book anyone s) budget ts es ps) (with_read (book_of s) read) (conclusions (book_of s)) budget us fs qs
  unfolding difference
  answer_refused k q =
      let b = begun.refused k q in
      follows (untouched us fs qs (Refused (number k))) b.0 (b.1 (book_of s) us fs qs (λ B. ends_with B (conclusions B) budget us fs qs (news us fs qs B (conclusions B) (conclusions (book_of s)))) (ap (λ (g : Counts). g.statements) o.counts) refl refl)

  module _ (y : Statement) (q : step ≡ Some (Ok y)) where
    goes : Finishes (end_of first) × (3 * budget ≤ length fs) × (2 * budget ≤ length us) × (h.statements < 4096) × ((next : ℕ) × (read ≡ value y next))
    goes = begun.goes y q

    pub go_finishes : Finishes (outcome_on (heard_book anyone s) budget ts es ps).end
    go_finishes = finishes goes.0

    pub go_admitted : Admitted budget us fs
    go_admitted = record { low = a.low; edges = goes.1; types = goes.2 }

    pub go_few : h.statements < 4096
    go_few = goes.3

    pub go_read : (next : ℕ) × (read ≡ value y next)
    go_read = goes.4

    copy_is : with_read (book_of s) read ≡ accepted (larger (book_of s) y)
    copy_is =
        let few : (book_of s).counts.statements < 4096 = subst (λ (g : Counts). g.statements < 4096) (sym o.counts) goes.3 in
        rw (lt-ltb (book_of s).counts.statements 4096 few, go_read.1) refl

    -- the run goes on
    pub go_ongoing : {S L C K t : List ℕ} {used taken from : ℕ} {denies denied : Bool} → rest s h from ≡ (book_of s).statements → Drawn h (heard_book anyone s) budget S L K t used denied
        → (used ≤ budget → Worked s h (heard_book anyone s) L S C K taken) → (denies ≡ false → used ≤ budget → denied_of (heedings anyone (rest s h from)) ≡ [])
        → total_rows (layout_of h) * 8 ≤ length S → h.statements * 4 + 4 ≤ length C → Ongoing s h from (heard anyone s) budget L S C K t used taken denies
    go_ongoing i d w quiet rows room =
        let few = finished_few (heard_inside anyone o) o.counts d ts es ps go_finishes in
        record { ended = _; drawn = d; heard = ap (heedings anyone) i; quiet = λ z. quiet z few; few = few; worked = w few; within = heard_within anyone o; rows = rows; room = omega (arith, (w few).taken, (w few).few, room) }

    present : Filled first ts' es' ps' (types (book_of s) (conclusions (book_of s))) (edges (book_of s) (conclusions (book_of s))) (pairs (book_of s) (conclusions (book_of s)))
    present = filled_by ts es ps (book_of s) (conclusions (book_of s)) budget first ts' es' ps' O ran (present_finished o ps a go_finishes)

    module _ (new : Within h y.body) (inside : Inside (larger (book_of s) y)) where
      -- what the copy came to by going on, moved or not
      module _ {from : ℕ} {S L C K t S' K' t' : List ℕ} {used taken u : ℕ} {denies denied moved : Bool} (on : Ongoing s h from (heard anyone s) budget L S C K t used taken denies)
          (now : Drawn h (book_with s (heard anyone s ++ (y ∷ []))) budget S' L K' t' u denied) (still : moved ≡ false → (u ≡ used) × (held (size_of h) K' t' ≡ held (size_of h) K t)) where
        pub answer_either : (rest : Answer) (us'' fs'' qs'' : List ℕ)
            → (moved ≡ true → gave (record { present = first; copy = Some rest }) ts' es' ps' us'' fs'' qs'' ≡ effect_by (outcome_on (heard_book anyone s) budget ts es ps) (with_read (book_of s) read) (conclusions (book_of s)) budget us fs qs)
            → (moved ≡ false → came rest us'' fs'' qs'' ≡ stayed (clash_in (layout_of h) t' S' L || denied) (end_of first) us fs qs)
            → gave (record { present = first; copy = Some rest }) ts' es' ps' us'' fs'' qs'' ≡ effect_by (outcome_on (heard_book anyone s) budget ts es ps) (with_read (book_of s) read) (conclusions (book_of s)) budget us fs qs
        answer_either rest us'' fs'' qs'' went stays = go moved refl
          where
            go : (b : Bool) → moved ≡ b → gave (record { present = first; copy = Some rest }) ts' es' ps' us'' fs'' qs'' ≡ effect_by (outcome_on (heard_book anyone s) budget ts es ps) (with_read (book_of s) read) (conclusions (book_of s)) budget us fs qs
            go true e = went e
            go false e =
                follows (came rest us'' fs'' qs'') goes.0
                (ap (λ (d : Decoded). difference d (conclusions (book_of s)) budget us fs qs) copy_is
                ∙ sym (still_difference o y new inside qs go_admitted on.drawn on.few now (still e) first ts' es' ps' present rest us'' fs'' qs'' (stays e)))

    module _ (new : Within h y.body) (inside : Inside (larger (book_of s) y)) (last : Answer) (us' fs' qs' : List ℕ)
        (again : came last us' fs' qs' ≡ outcome_on (book_with s (heard anyone s ++ (y ∷ []))) budget us fs qs) where
      -- both runs listed what they have
      pub go_filled : (t e p a b c : ℕ) → first ≡ answer.Finished t e p → last ≡ answer.Finished a b c
          → ((T : List Two) × (E : List Three) × (P : List Two) × Filled first ts' es' ps' T E P) × ((T : List Two) × (E : List Three) × (P : List Two) × Filled last us' fs' qs' T E P)
      go_filled t e p a b c f r =
          let C = larger (book_of s) y in
          let run = again ∙ copy_run o y new inside qs go_admitted in
          let ended : (outcome_of (accepted C) budget us fs qs).end ≡ Finished a b c = sym (ap (λ (x : Outcome). x.end) run) ∙ ap end_of r in
          ((_, _, _, present), (_, _, _, filled_by us fs qs C (conclusions C) budget last us' fs' qs' (outcome_of (accepted C) budget us fs qs) run (ends_finished us fs qs (accepted C) budget C refl a b c ended)))

      pub answer_went : (rest : Answer) (us'' fs'' qs'' : List ℕ)
          → (((t e p : ℕ) → last ≡ answer.Finished t e p → ⊥) → came rest us'' fs'' qs'' ≡ came last us' fs' qs')
          → ((T : List Two) (E : List Three) (P : List Two) (U : List Two) (F : List Three) (Q : List Two) → Filled first ts' es' ps' T E P → Filled last us' fs' qs' U F Q → came rest us'' fs'' qs'' ≡ lessened T E P U F Q us' fs' qs')
          → gave (record { present = first; copy = Some rest }) ts' es' ps' us'' fs'' qs'' ≡ effect_by (outcome_on (heard_book anyone s) budget ts es ps) (with_read (book_of s) read) (conclusions (book_of s)) budget us fs qs
      answer_went rest us'' fs'' qs'' other both =
          follows (came rest us'' fs'' qs'') goes.0
          (ap (λ (d : Decoded). difference d (conclusions (book_of s)) budget us fs qs) copy_is
          ∙ sym (copy_difference o y new inside qs go_admitted first last rest ts' es' ps' us' fs' qs' us'' fs'' qs'' present again other both))

-- ---- before the run

-- a present run that is refused stands alone
pub alone_effect : (s x : List ℕ) (budget : ℕ) (ts es ps us fs qs : List ℕ) (k : Refusal) → outcome s budget ts es ps ≡ untouched ts es ps (Refused (number k))
    → gave (record { present = answer.Refused k; copy = None }) ts es ps us fs qs ≡ effect s x budget ts es ps us fs qs
unfolding effect
alone_effect s x budget ts es ps us fs qs k e = sym (ap (λ (q : Outcome). on_finished q.end (by_itself q us fs qs) (followed q (difference (decode (copied s x)) (had (decode s)) budget us fs qs))) e)

-- what is left of a refusal at the exit of a `?`
pub stops_left : (r : Result Prospect Refusal) (k : Refusal) {ts es ps us fs qs : List ℕ} {x : Effect} → IsErrAnd r (λ y. y ≡ k) → gave (record { present = answer.Refused k; copy = None }) ts es ps us fs qs ≡ x → gave (prospect r) ts es ps us fs qs ≡ x
stops_left (Ok a) k p q = absurd p
stops_left (Err y) k {ts} {es} {ps} {us} {fs} {qs} p q = ap (λ (z : Refusal). gave (record { present = answer.Refused z; copy = None }) ts es ps us fs qs) p ∙ q

-- a record that is read keeps to the counts
pub record_within : (h : Counts) (x : List ℕ) (y : Statement) (next : ℕ) → one_record h x 0 ≡ value y next → Within h y.body
unfolding one_record
record_within h x y next e = go (statement h x 0) refl e
  where
    ended : (w : Statement) (m : ℕ) → statement h x 0 ≡ value w m → (b : Bool) → (onward (unless b 10 x m) λ u n. value w n) ≡ value y next → Within h y.body
    ended w m q true f = let r : w ≡ y = cc in subst (λ (z : Statement). Within h z.body) r (statement_within x h 0 w m q).body
    ended w m q false f = absurd (let k : ◌≡◌ {A = ℕ} 0 1 = cc in omega arith)

    go : (r : Read Statement) → statement h x 0 ≡ r → (onward r λ w m. onward (unless (leb (length x) m) 10 x m) λ u n. value w n) ≡ value y next → Within h y.body
    go (value w m) q f = ended w m q (leb (length x) m) f
    go (refusal k) q f = absurd (let j : ◌≡◌ {A = ℕ} 0 1 = cc in omega arith)

-- and the copy with it is a book
pub record_inside : {s : List ℕ} (x : List ℕ) {h : Counts} {offsets : List ℕ} → Open s h offsets → (y : Statement) (next : ℕ) → one_record h x 0 ≡ value y next → h.statements < 4096 → Inside (larger (book_of s) y)
unfolding with_record
record_inside {s} x {h} o y next e l =
    let few : (book_of s).counts.statements < 4096 = subst (λ (g : Counts). g.statements < 4096) (sym o.counts) l in
    let read : one_record (book_of s).counts x 0 ≡ value y next = ap (λ (g : Counts). one_record g x 0) o.counts ∙ e in
    accepted_inside (copied s x) (larger (book_of s) y) (copied_is s x (book_of s) (whole o) ∙ rw (lt-ltb (book_of s).counts.statements 4096 few, read) refl)
