-- The demand of request No. 14 holds of every answer on an accepted book, whatever the budget and the lists.
use Prim.Native.Nat.{ℕ, ◌<◌, ◌≤◌}
use native.Mathlib.Omega.{arith}
use mathlib.Core.Path.{◌≡◌, refl, ap, sym, ◌∙◌, subst}
use mathlib.Core.Bool.{Bool, true, false, ◌&&◌}
use mathlib.Core.List.{List}
use mathlib.Core.Logic.{◌⊎◌, inl, inr}
use lib.Dec.{ltb}
use borrow.Author.Tests.{lt-ltb, le-ltb, ltb-true}
use Rattle.book.specs.Read.{pick}
use Rattle.book.specs.Book.{Book, Decoded, accepted, refused, decode}
use Rattle.rules.specs.Fact.{pair}
use Rattle.rules.specs.Brought.{concept}
use Rattle.rules.specs.Meaning.{conclusions}
use Rattle.rules.specs.Ends.{End, Refused, Spent, Clash, Finished, Outcome, untouched, on_decoded, outcome_of}
use Rattle.rules.specs.Spoken.{Reader, spoken, decode_for}
use Rattle.rules.specs.World.{World, Fits}
use Rattle.rules.specs.Plain.{Plain}
use Rattle.rules.proofs.Tests.{false_true, and_both, and_intro}
use Rattle.rules.proofs.Inside.{Inside, accepted_inside}
use Rattle.rules.proofs.Sound.{conclusions_true, to_pair}
use Rattle.rules.proofs.Complete.{canonical, canonical_fits}
use Rattle.rules.proofs.Ended.{ends_finished}
use Rattle.rules.proofs.Spoken.{spoken_inside, decoded_for, refused_end}
use Rattle.member.specs.Shown.{in_one_class, shown_in, Positive}
use Rattle.member.specs.Answer.{Answer, Shown, NotShown, Ended, judged, answered, asked, questioned, member_of, member, member_for}
use Rattle.member.specs.Judgement.{Member, Judgement}
use Rattle.member.proofs.True.{shown_of}
use Rattle.member.proofs.False.{member_shown}

-- what a judgement comes from
shown_from : (b : Bool) (x : End) (t e p : ℕ) → judged b x ≡ Shown t e p → (x ≡ Finished t e p) × (b ≡ true)
shown_from b (Refused k) t e p q = absurd (let z : ◌≡◌ {A = ℕ} 0 1 = cc in omega arith)
shown_from b Spent t e p q = absurd (let z : ◌≡◌ {A = ℕ} 0 1 = cc in omega arith)
shown_from b (Clash u f) t e p q = absurd (let z : ◌≡◌ {A = ℕ} 0 1 = cc in omega arith)
shown_from true (Finished u f r) t e p q = (let i : Finished u f r ≡ Finished t e p = cc in i, refl)
shown_from false (Finished u f r) t e p q = absurd (let z : ◌≡◌ {A = ℕ} 0 1 = cc in omega arith)

not_from : (b : Bool) (x : End) (t e p : ℕ) → judged b x ≡ NotShown t e p → (x ≡ Finished t e p) × (b ≡ false)
not_from b (Refused k) t e p q = absurd (let z : ◌≡◌ {A = ℕ} 0 1 = cc in omega arith)
not_from b Spent t e p q = absurd (let z : ◌≡◌ {A = ℕ} 0 1 = cc in omega arith)
not_from b (Clash u f) t e p q = absurd (let z : ◌≡◌ {A = ℕ} 0 1 = cc in omega arith)
not_from true (Finished u f r) t e p q = absurd (let z : ◌≡◌ {A = ℕ} 0 1 = cc in omega arith)
not_from false (Finished u f r) t e p q = (let i : Finished u f r ≡ Finished t e p = cc in i, refl)

-- what code cites: a run that is refused leaves the lists as they were; 17; and where the individual and the concept are the book's own
module _ (budget : ℕ) (ts es ps : List ℕ) (i c : ℕ) where
  pub member_refused : (d : Decoded) (n : ℕ) → outcome_of (questioned i c d) budget ts es ps ≡ untouched ts es ps (Refused n) → member_of d budget ts es ps i c ≡ record { answer = Ended (Refused n); types = ts; edges = es; pairs = ps }
  unfolding member_of
  member_refused d n e = ap (answered (on_decoded d (λ n. false) (λ B. shown_in B i c))) e

  pub no_individual : (d : Decoded) (B : Book) → d ≡ accepted B → B.counts.individuals ≤ i → questioned i c d ≡ refused 17
  no_individual d B e l = rw (e, le-ltb i B.counts.individuals l) refl

  pub no_concept : (d : Decoded) (B : Book) → d ≡ accepted B → B.counts.concepts ≤ c → questioned i c d ≡ refused 17
  no_concept d B e l = ap (questioned i c) e ∙ (rw (le-ltb c B.counts.concepts l) (go (ltb i B.counts.individuals)))
    where
      go : (b : Bool) → pick (b && false) (accepted B) (refused 17) ≡ refused 17
      go true = refl
      go false = refl

  pub member_run : (d : Decoded) (B : Book) → d ≡ accepted B → i < B.counts.individuals → c < B.counts.concepts → member_of d budget ts es ps i c ≡ answered (shown_in B i c) (outcome_of d budget ts es ps)
  unfolding member_of
  member_run d B e k l = rw e (ap (λ (b : Bool). answered (shown_in B i c) (outcome_of (pick b (accepted B) (refused 17)) budget ts es ps)) (and_intro (ltb i B.counts.individuals) (ltb c B.counts.concepts) (lt-ltb i B.counts.individuals k) (lt-ltb c B.counts.concepts l)))

  module _ (d : Decoded) (B : Book) (book : d ≡ accepted B) (inside : Inside B) where
    abbrev run : Outcome
    run = outcome_of (questioned i c d) budget ts es ps

    abbrev answer : Answer
    answer = (member_of d budget ts es ps i c).answer

    answer_is : answer ≡ judged (shown_in B i c) run.end
    unfolding member_of
    answer_is = ap (λ (x : Decoded). judged (on_decoded x (λ n. false) (λ C. shown_in C i c)) run.end) book

    -- a run that finishes is one of the book's own individual and concept
    own : (t e p : ℕ) → run.end ≡ Finished t e p → asked i c B ≡ true
    own t e p q = go (asked i c B) (ap (questioned i c) book)
      where
        go : (b : Bool) → questioned i c d ≡ pick b (accepted B) (refused 17) → b ≡ true
        go true f = refl
        go false f = absurd (let r = refused_end 17 budget ts es ps in
            let z : Refused r.0 ≡ Finished t e p = sym r.1 ∙ (ap (λ (x : Decoded). (outcome_of x budget ts es ps).end) (sym f) ∙ q) in
            let o : ◌≡◌ {A = ℕ} 0 1 = cc in omega arith)

    accepts : asked i c B ≡ true → questioned i c d ≡ accepted B
    accepts q = ap (questioned i c) book ∙ ap (λ (b : Bool). pick b (accepted B) (refused 17)) q

    holds : (t e p : ℕ) → answer ≡ Shown t e p → (W : World) → Fits W B → Member W B i c
    unfolding shown_in in_one_class
    holds t e p q W fits =
        let f = shown_from (shown_in B i c) run.end t e p (sym answer_is ∙ q) in
        let k = and_both (ltb i B.counts.individuals) (ltb c B.counts.concepts) (own t e p f.0) in
        shown_of W B inside (conclusions B) (in_one_class B) (conclusions_true W B inside fits) (λ i b m q. to_pair W B inside i b m (conclusions_true W B inside fits (pair i b) q)) (concept B c) (inside.concepts c) i (ltb-true i B.counts.individuals k.0) f.1

    fails : Plain B → Positive (concept B c) → (t e p : ℕ) → answer ≡ NotShown t e p → (W : World) × Fits W B × (¬ Member W B i c)
    unfolding shown_in in_one_class
    fails plain positive t e p q =
        let f = not_from (shown_in B i c) run.end t e p (sym answer_is ∙ q) in
        let a = own t e p f.0 in
        let k = and_both (ltb i B.counts.individuals) (ltb c B.counts.concepts) a in
        let calm = (ends_finished ts es ps (questioned i c d) budget B (accepts a) t e p f.0).calm in
        (canonical B inside, canonical_fits B inside plain calm, λ m. false_true (sym f.1 ∙ member_shown B inside (concept B c) positive (inside.concepts c) i (ltb-true i B.counts.individuals k.0) m))

    pub judgement_of : Judgement B i c (member_of d budget ts es ps i c).answer
    judgement_of = record { shown_true = holds; plain_false = fails }

-- THE DEMAND of request No. 14
pub judgement : (s : List ℕ) (budget : ℕ) (ts es ps : List ℕ) (i c : ℕ) (B : Book) → decode s ≡ accepted B → Judgement B i c (member s budget ts es ps i c).answer
judgement s budget ts es ps i c B book = judgement_of budget ts es ps i c (decode s) B book (accepted_inside s B book)

-- where nothing is read there is no judgement
refused_judgement : (n budget : ℕ) (ts es ps : List ℕ) (i c : ℕ) (B : Book) → Judgement B i c (member_of (refused n) budget ts es ps i c).answer
unfolding member_of
refused_judgement n budget ts es ps i c B =
    let r = refused_end n budget ts es ps in
    let never : (b : Bool) → judged b (Refused r.0) ≡ judged false (outcome_of (refused n) budget ts es ps).end = λ b. ap (judged false) (sym r.1) in
    record {
      shown_true = λ t e p q. absurd (let z : Ended (Refused r.0) ≡ Shown t e p = never false ∙ q in let o : ◌≡◌ {A = ℕ} 0 1 = cc in omega arith);
      plain_false = λ plain positive t e p q. absurd (let z : Ended (Refused r.0) ≡ NotShown t e p = never false ∙ q in let o : ◌≡◌ {A = ℕ} 0 1 = cc in omega arith);
    }

-- and with a reader, of the book spoken of
pub judgement_for : (r : Reader) (s : List ℕ) (budget : ℕ) (ts es ps : List ℕ) (i c : ℕ) (B : Book) → decode s ≡ accepted B → Judgement (spoken r B) i c (member_for r s budget ts es ps i c).answer
judgement_for r s budget ts es ps i c B book = go (decoded_for r s B book)
  where
    go : (decode_for r s ≡ accepted (spoken r B)) ⊎ ((n : ℕ) × (decode_for r s ≡ refused n)) → Judgement (spoken r B) i c (member_for r s budget ts es ps i c).answer
    go (inl q) = judgement_of budget ts es ps i c (decode_for r s) (spoken r B) q (spoken_inside r s B book)
    go (inr q) = subst (λ (x : Decoded). Judgement (spoken r B) i c (member_of x budget ts es ps i c).answer) (sym q.1) (refused_judgement q.0 budget ts es ps i c (spoken r B))
