-- When it is shown that an individual is of a concept: a concept is judged by its parts, and a part list by its concepts.
use Rattle.std.specs.Prelude.{ℕ, Bool, true, false, ◌&&◌, ◌||◌}
use Rattle.book.specs.Tree.{Concept, Concepts, Top, Bot, Atomic, Nominal, SelfRestriction, Not, And, Or, Some, All, Min, Max, none, more}
use Rattle.book.specs.Book.{Book}
use Rattle.book.specs.declared.role.Role.{Role}
use Rattle.rules.specs.Fact.{edge, type, pair}
use Rattle.rules.specs.Rule.{Set, any}
use Rattle.rules.specs.Brought.{concept}
use Rattle.rules.specs.Meaning.{conclusions}

-- For n individuals, the facts S, and the classes C of individuals that are one: of a concept, of every part of a list, of some part of a list. An
-- inverse role leads in its polarity, as an edge does.
module _ (n : ℕ) (S : Set) (C : ℕ → ℕ → Bool) where
  abbrev mutual
    pub shown : Concept → ℕ → Bool
    shown Top i = true
    shown Bot i = false
    shown (Atomic c) i = S (type i c)
    shown (Nominal b) i = C i b
    shown (SelfRestriction r) i = S (edge r i i)
    shown (Not e) i = false
    shown (And es) i = shown_all es i
    shown (Or es) i = shown_some es i
    shown (Some r e) i = any n λ j. S (edge r i j) && shown e j
    shown (All r e) i = false
    shown (Min m r e) i = false
    shown (Max m r e) i = false

    pub shown_all : Concepts → ℕ → Bool
    shown_all none i = true
    shown_all (more e es) i = shown e i && shown_all es i

    pub shown_some : Concepts → ℕ → Bool
    shown_some none i = false
    shown_some (more e es) i = shown e i || shown_some es i

-- both are in one class, told or found, in which each is with itself
unfoldable pub in_one_class : Book → ℕ → ℕ → Bool
in_one_class B i j = conclusions B (pair i j)

-- whether concept c of a book is shown for the individual i
unfoldable pub shown_in : Book → ℕ → ℕ → Bool
shown_in B i c = shown B.counts.individuals (conclusions B) (in_one_class B) (concept B c) i

-- a concept built of the kinds that can be shown, alone
mutual
  pub data Positive : Concept → Type 0 where
    positive_top : Positive Top
    positive_atomic : (c : ℕ) → Positive (Atomic c)
    positive_nominal : (b : ℕ) → Positive (Nominal b)
    positive_self : (r : Role) → Positive (SelfRestriction r)
    positive_and : {es : Concepts} → AllPositive es → Positive (And es)
    positive_or : {es : Concepts} → AllPositive es → Positive (Or es)
    positive_some : (r : Role) {e : Concept} → Positive e → Positive (Some r e)

  pub data AllPositive : Concepts → Type 0 where
    positive_none : AllPositive none
    positive_more : {e : Concept} {es : Concepts} → Positive e → AllPositive es → AllPositive (more e es)
