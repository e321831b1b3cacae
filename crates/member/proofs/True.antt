-- What is shown holds in every world that fits.
use Prim.Native.Nat.{ℕ, ◌<◌}
use mathlib.Core.Path.{◌≡◌}
use mathlib.Core.Bool.{Bool, true, ◌&&◌}
use mathlib.Core.Logic.{⊎_elim}
use Rattle.book.specs.Tree.{Concept, Concepts, Top, Bot, Atomic, Nominal, SelfRestriction, Not, And, Or, Some, All, Min, Max, none, more}
use Rattle.book.specs.Book.{Book}
use Rattle.rules.specs.Fact.{edge}
use Rattle.rules.specs.Rule.{Set}
use Rattle.rules.specs.World.{World, Of, OfAll, OfNone}
use Rattle.rules.specs.Applied.{In}
use Rattle.rules.proofs.Tests.{false_true, and_both, or_cases, any_some}
use Rattle.rules.proofs.Inside.{ConceptIn, ConceptsIn, Inside}
use Rattle.rules.proofs.Sound.{truth, to_class, to_leads}
use Rattle.member.specs.Shown.{shown, shown_all, shown_some}

-- of facts that are true, and of classes whose individuals are one thing each
module _ (W : World) (B : Book) (inside : Inside B) (S : Set) (C : ℕ → ℕ → Bool) (true-facts : In S (truth W)) (one-thing : (i b : ℕ) → b < B.counts.individuals → C i b ≡ true → W.ind i ≡ W.ind b) where
  abbrev n : ℕ
  n = B.counts.individuals

  mutual
    pub shown_of : (e : Concept) → ConceptIn B.counts e → (i : ℕ) → i < n → shown n S C e i ≡ true → Of W e (W.ind i)
    shown_of Top w i l q = tt
    shown_of Bot w i l q = false_true q
    shown_of (Atomic c) w i l q = to_class W B inside i c l w (true-facts _ q)
    shown_of (Nominal b) w i l q = one-thing i b w q
    shown_of (SelfRestriction ρ) w i l q = to_leads W B inside ρ i i w l l (true-facts _ q)
    shown_of (Not e) w i l q = false_true q
    shown_of (And es) w i l q = all_of es w i l q
    shown_of (Or es) w i l q = λ k. some_of es w i l q k
    shown_of (Some ρ e) w i l q =
        let a = any_some n (λ j. S (edge ρ i j) && shown n S C e j) q in
        let b = and_both (S (edge ρ i a.0)) (shown n S C e a.0) a.2 in
        λ k. k (W.ind a.0) (W.ind_thing a.0) (to_leads W B inside ρ i a.0 w.0 l a.1 (true-facts _ b.0)) (shown_of e w.1 a.0 a.1 b.1)
    shown_of (All ρ e) w i l q = false_true q
    shown_of (Min m ρ e) w i l q = false_true q
    shown_of (Max m ρ e) w i l q = false_true q

    all_of : (es : Concepts) → ConceptsIn B.counts es → (i : ℕ) → i < n → shown_all n S C es i ≡ true → OfAll W es (W.ind i)
    all_of none w i l q = tt
    all_of (more e es) w i l q = let b = and_both (shown n S C e i) (shown_all n S C es i) q in (shown_of e w.0 i l b.0, all_of es w.1 i l b.1)

    some_of : (es : Concepts) → ConceptsIn B.counts es → (i : ℕ) → i < n → shown_some n S C es i ≡ true → OfNone W es (W.ind i) → ⊥
    some_of none w i l q k = false_true q
    some_of (more e es) w i l q k = ⊎_elim (λ a. k.0 (shown_of e w.0 i l a)) (λ b. some_of es w.1 i l b k.1) (or_cases (shown n S C e i) (shown_some n S C es i) q)
