-- What a run leaves shows what the definition says, and so its answer is the answer of the run.
use Prim.Native.Nat.{ℕ, ◌<◌, ◌≤◌}
use native.Mathlib.Decide.{dec_lt}
use native.Mathlib.Omega.{arith}
use mathlib.Core.Path.{◌≡◌, refl, ap, sym, ◌∙◌}
use mathlib.Core.Bool.{Bool}
use mathlib.Core.List.{List, [], ◌∷◌}
use denote.Enum.Declared.{tag_of}
use types.Run.{miss}
use borrow.Enum.Refused.{Among, opened}
use Rattle.book.specs.Book.{Book}
use Rattle.book.specs.declared.header.Counts.{Counts}
use Rattle.rules.specs.Brought.{concept}
use Rattle.rules.specs.Ends.{End, Refused, Spent, Clash, Finished, Outcome}
use Rattle.rules.proofs.Inside.{Inside}
use Rattle.rules.proofs.Engine.{run_closed}
use Rattle.tables.specs.Open.{size_of}
use Rattle.said.specs.Layout.{layout_of, part}
use Rattle.said.specs.declared.layout.Relation.TheVariants.{Groups}
use Rattle.rounds.specs.View.{held}
use Rattle.verdict.specs.Conclude.{end_of, came}
use Rattle.verdict.specs.declared.end.End.{End as Given}
use Rattle.verdict.specs.declared.end.End.TheVariants.{Finished as finished, Clash as clash, Spent as spent, Refused as refused}
use Rattle.verdict.specs.contracts.end.End.{the_type}
use Rattle.saturation.specs.Run.{outcome_on, Drawn}
use Rattle.saturation.proofs.Ending.{drawn_spent}
use Rattle.member.specs.Shown.{shown_in}
use Rattle.member.specs.Answer.{Ended, judged, answered}
use Rattle.judging.specs.Memo.{shown_by}
use Rattle.judging.proofs.Agree.{shown_held}
use Rattle.judge.specs.Answered.{answer_of, gave}
use Rattle.judge.specs.declared.answer.Answer.{Answer}

-- what is drawn shows the book's classes and conclusions
module _ {h : Counts} {B : Book} (inside : Inside B) (counts : B.counts ≡ h) {budget : ℕ} {S L K t : List ℕ} {u : ℕ} {b : Bool} (d : Drawn h B budget S L K t u b) where
  abbrev g : List ℕ
  g = part (layout_of h) Groups S

  shown_same : u ≤ budget → (i c : ℕ) → i < h.individuals → shown_by h t g (concept B c) i ≡ shown_in B i c
  shown_same few i c l = shown_held inside counts K t g (d.labelled few) (d.groups few) (run_closed B inside (held (size_of h) K t) u d.reached (d.closed few)) i c l

  -- so an answer by them is the answer of the run: where it does not finish there is no judgement
  module _ (ts es ps : List ℕ) where
    finishes : (a b p : ℕ) → (outcome_on B budget ts es ps).end ≡ Finished a b p → u ≤ budget
    finishes a b p q = go (dec_lt budget u)
      where
        go : Dec (budget < u) → u ≤ budget
        go (yes l) = absurd (let e : Spent ≡ Finished a b p = ap (λ (o : Outcome). o.end) (sym (drawn_spent inside counts d ts es ps l)) ∙ q in let z : ◌≡◌ {A = ℕ} 0 1 = cc in omega arith)
        go (no l) = omega arith

    judged_same : (i c : ℕ) → i < h.individuals → (x : End) → (outcome_on B budget ts es ps).end ≡ x → judged (shown_by h t g (concept B c) i) x ≡ judged (shown_in B i c) x
    judged_same i c l (Refused k) q = refl
    judged_same i c l Spent q = refl
    judged_same i c l (Clash a b) q = refl
    judged_same i c l (Finished a b p) q = ap (λ (v : Bool). judged v (Finished a b p)) (shown_same (finishes a b p q) i c l)

    pub answered_same : (r : Answer) (x : Given) {ts' es' ps' : List ℕ} (i c : ℕ) → i < h.individuals → came x ts' es' ps' ≡ outcome_on B budget ts es ps
        → answer_of r ≡ judged (shown_by h t (part (layout_of h) Groups S) (concept B c) i) (end_of x) → gave r ts' es' ps' ≡ answered (shown_in B i c) (outcome_on B budget ts es ps)
    answered_same r x {ts'} {es'} {ps'} i c l e f =
        ap (λ (a : _). record { answer = a; types = ts'; edges = es'; pairs = ps' }) (f ∙ judged_same i c l (end_of x) (ap (λ (o : Outcome). o.end) (sym e)))
        ∙ ap (answered (shown_in B i c)) e

-- a run that does not finish gives its own end
abbrev unfinished : List ℕ
unfinished = 1 ∷ 2 ∷ 3 ∷ []

pub not_finished : (x : Given) (b : Bool) → Among unfinished (tag_of the_type x) → Ended (end_of x) ≡ judged b (end_of x)
not_finished (finished t e p) b k = absurd (miss unfinished 0 tt (opened k))
not_finished (clash t e) b k = refl
not_finished spent b k = refl
not_finished (refused n) b k = refl
