-- The answer of a run whose budget and lists are admitted, for a reader who is, or for none.
use Prim.Native.Nat.{ℕ, ◌<◌, ◌≤◌}
use mathlib.Core.Path.{◌≡◌, ap, sym, ◌∙◌, subst}
use mathlib.Core.List.{List}
use lib.ListN.{length}
use Rattle.book.specs.Book.{Book, refused, accepted, decode, BookChecked}
use Rattle.book.specs.declared.header.Counts.{Counts}
use Rattle.book.specs.declared.statement.Statement.{Statement}
use Rattle.book.specs.declared.refusal.Refusal.{Refusal}
use Rattle.book.specs.declared.refusal.Refusal.TheVariants.{NoSuchQuestion}
use Rattle.book.specs.Refusal.{number}
use Rattle.std.specs.Prelude.{Result, Ok, Err, IsErrAnd}
use Rattle.book.proofs.Accepted.{checked_refused}
use Rattle.rules.specs.Fact.{pair}
use Rattle.rules.specs.Rule.{Set}
use Rattle.rules.specs.Brought.{concept}
use Rattle.rules.specs.Ends.{outcome_of}
use Rattle.rules.specs.Spoken.{Reader, spoken, spoken_of, decode_for}
use Rattle.rules.proofs.Ended.{refused_book}
use Rattle.rules.proofs.Members.{conclusions_same}
use Rattle.rules.proofs.Spoken.{spoken_inside}
use Rattle.tables.proofs.Open.{whole}
use Rattle.tables.specs.Open.{book_of, Open}
use Rattle.heed.specs.Names.{reader_of, Ready}
use Rattle.heed.specs.declared.names.Names.{Names}
use Rattle.heed.proofs.Laws.{ready_decoded}
use Rattle.verdict.specs.declared.end.End.TheVariants.{Refused as refusal}
use Rattle.saturation.specs.Run.{heard, heard_book, outcome_on, Admitted}
use Rattle.saturation.proofs.run.Closing.{heard_inside}
use Rattle.saturation.proofs.saturate.Answers.{heard_outcome}
use Rattle.member.specs.Shown.{shown, in_one_class, shown_in}
use Rattle.member.specs.Answer.{Answered, answered, questioned, member, member_for}
use Rattle.member.specs.Judgement.{Judgement}
use Rattle.member.proofs.Judged.{member_refused, member_run, no_individual, no_concept, judgement, judgement_for}
use Rattle.judge.specs.Answered.{gave}
use Rattle.judge.specs.Answered.{answered as answering}
use Rattle.judge.specs.declared.answer.Answer.{Answer}
use Rattle.judge.specs.declared.answer.Answer.TheVariants.{Ended}

module _ {budget : ℕ} {ts es : List ℕ} (a : Admitted budget ts es) (ps : List ℕ) (i c : ℕ) where
  -- what is refused leaves the lists as they were
  pub refused_gave : (r : Reader) (s : List ℕ) (k : Refusal) → questioned i c (decode_for r s) ≡ refused (number k) → gave (Ended (refusal k)) ts es ps ≡ member_for r s budget ts es ps i c
  refused_gave r s k e = sym (member_refused budget ts es ps i c (decode_for r s) (number k) (refused_book ts es ps (questioned i c (decode_for r s)) budget a.low a.edges a.types (number k) e))

  module _ (n : Names) (ready : Ready n) where
    abbrev r : Reader
    r = reader_of n

    pub refused_read : {s offsets : List ℕ} {x : Result (Counts × ℕ) Refusal} {k : Refusal} → BookChecked s x offsets → x ≡ Err k → gave (Ended (refusal k)) ts es ps ≡ member_for (reader_of n) s budget ts es ps i c
    refused_read {s} {offsets} {x} {k} b e = refused_gave r s k (ap (questioned i c) (ready_decoded n ready s ∙ ap (spoken_of r) (checked_refused s offsets x b k e)))

    module _ {s : List ℕ} {h : Counts} {offsets : List ℕ} (o : Open s h offsets) where
      ys : List Statement
      ys = heard (reader_of n) s

      decoded : decode_for r s ≡ accepted (spoken r (book_of s))
      decoded = ready_decoded n ready s ∙ ap (spoken_of r) (whole o)

      -- 17: no such individual, no such concept
      pub no_such_individual : h.individuals ≤ i → gave (Ended (refusal NoSuchQuestion)) ts es ps ≡ member_for (reader_of n) s budget ts es ps i c
      no_such_individual l = refused_gave r s NoSuchQuestion (no_individual budget ts es ps i c (decode_for r s) (spoken r (book_of s)) decoded (subst (λ (g : Counts). g.individuals ≤ i) (sym o.counts) l))

      pub no_such_concept : h.concepts ≤ c → gave (Ended (refusal NoSuchQuestion)) ts es ps ≡ member_for (reader_of n) s budget ts es ps i c
      no_such_concept l = refused_gave r s NoSuchQuestion (no_concept budget ts es ps i c (decode_for r s) (spoken r (book_of s)) decoded (subst (λ (g : Counts). g.concepts ≤ c) (sym o.counts) l))

      -- what the run of the statements that count shows is shown of the book spoken of: it differs in the count of its statements alone
      shown_spoken : shown_in (spoken r (book_of s)) i c ≡ shown_in (heard_book r s) i c
      unfolding shown_in in_one_class
      shown_spoken = ap (λ (X : Set). shown (book_of s).counts.individuals X (λ j b. X (pair j b)) (concept (book_of s) c) i) (conclusions_same (heard_book r s) (length (heard r s)) (heard r s) (λ P k. k) (λ P k. k) (heard_inside r o) (spoken_inside r s (book_of s) (whole o)))

      pub own_gave : i < h.individuals → c < h.concepts → answered (shown_in (heard_book (reader_of n) s) i c) (outcome_on (heard_book (reader_of n) s) budget ts es ps) ≡ member_for (reader_of n) s budget ts es ps i c
      own_gave k l =
          sym (member_run budget ts es ps i c (decode_for r s) (spoken r (book_of s)) decoded (subst (λ (g : Counts). i < g.individuals) (sym o.counts) k) (subst (λ (g : Counts). c < g.concepts) (sym o.counts) l)
          ∙ (ap (λ (b : _). answered b (outcome_of (decode_for r s) budget ts es ps)) shown_spoken
          ∙ ap (answered (shown_in (heard_book r s) i c)) (sym (heard_outcome n ready ps a o))))

-- what is given of a refusal at the exit of a `?`
pub stops_gave : (r : Result Answer Refusal) (k : Refusal) {ts es ps : List ℕ} {o : Answered} → IsErrAnd r (λ y. y ≡ k) → gave (Ended (refusal k)) ts es ps ≡ o → gave (answering r) ts es ps ≡ o
stops_gave (Ok a) k p q = absurd p
stops_gave (Err y) k {ts} {es} {ps} p q = ap (λ (z : Refusal). gave (Ended (refusal z)) ts es ps) p ∙ q

-- the demand, of what was given
pub judgement_gave : (s : List ℕ) (budget : ℕ) (ts es ps : List ℕ) (i c : ℕ) {x : Answered} → x ≡ member s budget ts es ps i c → (B : Book) → decode s ≡ accepted B → Judgement B i c x.answer
judgement_gave s budget ts es ps i c e B d = subst (λ (y : Answered). Judgement B i c y.answer) (sym e) (judgement s budget ts es ps i c B d)

pub judgement_read : (r : Reader) (s : List ℕ) (budget : ℕ) (ts es ps : List ℕ) (i c : ℕ) {x : Answered} → x ≡ member_for r s budget ts es ps i c → (B : Book) → decode s ≡ accepted B → Judgement (spoken r B) i c x.answer
judgement_read r s budget ts es ps i c e B d = subst (λ (y : Answered). Judgement (spoken r B) i c y.answer) (sym e) (judgement_for r s budget ts es ps i c B d)
