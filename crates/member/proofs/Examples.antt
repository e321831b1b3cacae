-- Small judgements, computed: two individuals; role 0 leads 0 to 1, role 1 leads 1 to itself; 1 has class 0. Every kind, shown and not.
use Prim.Native.Nat.{ℕ, zero, suc}
use native.Mathlib.Omega.{arith}
use mathlib.Core.Path.{◌≡◌, refl, ap, sym}
use mathlib.Core.Bool.{Bool, true, false, ◌||◌}
use mathlib.Core.List.{List, [], ◌∷◌}
use lib.Dec.{eqb}
use Rattle.book.specs.Tree.{Concept, Concepts, Top, Bot, Atomic, Nominal, SelfRestriction, Not, And, Or, Some, All, Min, Max, none, more}
use Rattle.book.specs.Book.{Book, refused, accepted}
use Rattle.book.specs.declared.statement.Axiom.TheVariants.{FunctionalRole, SameIndividual, ObjectPropertyAssertion}
use Rattle.book.specs.declared.statement.Axiom.{Axiom}
use Rattle.book.specs.declared.statement.Statement.{Statement}
use Rattle.book.specs.declared.role.Role.TheVariants.{Named, Inverse}
use Rattle.rules.specs.Fact.{edge, type, pair}
use Rattle.rules.specs.Rule.{Set}
use Rattle.rules.specs.Brought.{concept, atomics, values}
use Rattle.rules.specs.Meaning.{rules}
use Rattle.rules.proofs.Inside.{ConceptIn, Inside}
use Rattle.rules.proofs.Bars.{mem, test_facts, are_facts}
use Rattle.rules.specs.Ends.{Refused, Spent, Clash, Finished}
use Rattle.member.specs.Shown.{shown, in_one_class}
use Rattle.member.specs.Answer.{Shown, NotShown, Ended, judged, questioned}

S : Set
S k = eqb k (edge (Named 0) 0 1) || (eqb k (edge (Named 1) 1 1) || eqb k (type 1 0))

abbrev is : Concept → ℕ → Bool → Type 0
is e i b = shown 2 S eqb e i ≡ b

abbrev both : Concept → Concept → Concepts
both d e = more d (more e none)

always : is Top 0 true × is Bot 0 false
always = (refl, refl)

classes : is (Atomic 0) 1 true × is (Atomic 0) 0 false × is (Atomic 1) 1 false
unfolding S edge type
classes = (refl, refl, refl)

itself : is (Nominal 0) 0 true × is (Nominal 1) 0 false
itself = (refl, refl)

-- an inverse role leads the other way; to itself it leads whom the role leads so
turned : is (SelfRestriction (Named 1)) 1 true × is (SelfRestriction (Inverse 1)) 1 true × is (SelfRestriction (Named 1)) 0 false × is (SelfRestriction (Inverse 0)) 0 false
unfolding S edge type
turned = (refl, refl, refl, refl)

led : is (Some (Named 0) (Atomic 0)) 0 true × is (Some (Named 0) (Nominal 0)) 0 false × is (Some (Named 0) Top) 1 false × is (Some (Inverse 0) Top) 0 false × is (Some (Inverse 0) (Nominal 0)) 1 true
unfolding S edge type
led = (refl, refl, refl, refl, refl)

-- no parts: every part is shown, and none is
no_parts_lem : is (And none) 0 true × is (Or none) 0 false
no_parts_lem = (refl, refl)

parts : is (And (both (Atomic 0) Top)) 1 true × is (And (both (Atomic 0) Top)) 0 false × is (Or (both (Atomic 0) Bot)) 1 true × is (Or (both (Atomic 0) Bot)) 0 false
unfolding S edge type
parts = (refl, refl, refl, refl)

-- a concept is judged by its parts, and a part list by its concepts
mixed : is (And (both (Some (Named 0) Top) (Or (both Bot (Nominal 0))))) 0 true × is (Some (Named 0) (And (both (Atomic 0) (Some (Named 1) (Atomic 0))))) 0 true
unfolding S edge type
mixed = (refl, refl)

-- true in every world, and not shown
never : is (Not Bot) 0 false × is (All (Named 0) Top) 0 false × is (Min 0 (Named 0) Top) 0 false × is (Max 9 (Named 0) Bot) 0 false
never = (refl, refl, refl, refl)

-- so an Or that has one beside Top is shown, and an And is not
beside : is (Or (both (Not Bot) Top)) 0 true × is (And (both (Not Bot) Top)) 0 false
beside = (refl, refl)

-- ---- classes: 0 and 1 are told to be the same; role 0 is functional and leads 3 to 1 and to 2, which so are found to be; 4 stands alone

abbrev saying : Axiom → Statement
saying a = record { source = 0; first = 0; last = 65535; body = a }

joined : Book
joined =
    record {
      counts = record { classes = 0; roles = 1; individuals = 5; concepts = 1; statements = 4 };
      concepts = Nominal 0 ∷ [];
      statements =
          saying (SameIndividual 0 1) ∷ saying (FunctionalRole (Named 0)) ∷ saying (ObjectPropertyAssertion (Named 0) 3 1)
          ∷ saying (ObjectPropertyAssertion (Named 0) 3 2) ∷ [];
    }

-- its conclusions, the last drawn first
drawn_facts : List ℕ
drawn_facts =
    edge (Named 0) 3 0 ∷ pair 2 0 ∷ pair 0 2 ∷ pair 2 1 ∷ pair 1 2 ∷ pair 1 0 ∷ pair 4 4 ∷ pair 3 3 ∷ pair 2 2 ∷ pair 1 1 ∷ pair 0 0
    ∷ edge (Named 0) 3 2 ∷ edge (Named 0) 3 1 ∷ pair 0 1 ∷ []

inside : Inside joined
unfolding joined
inside =
    record {
      limits = record { classes_top = omega arith; roles_top = omega arith; individuals_top = omega arith; concepts_top = omega arith; statements_top = omega arith };
      concepts = λ c. go c;
      statements = ((omega arith, omega arith), (omega arith, ((omega arith, omega arith, omega arith), ((omega arith, omega arith, omega arith), tt))));
    }
  where
    go : (c : ℕ) → ConceptIn joined.counts (concept joined c)
    go zero = omega arith
    go (suc c) = tt

facts_tested : test_facts (accepted joined) drawn_facts ≡ true
unfolding joined drawn_facts rules edge type pair atomics values
facts_tested = refl

one : (i j : ℕ) → in_one_class joined i j ≡ mem drawn_facts (pair i j)
unfolding in_one_class
one i j = ap (λ (S : Set). S (pair i j)) (sym (are_facts joined inside drawn_facts facts_tested))

told_and_found : (in_one_class joined 0 2 ≡ true) × (in_one_class joined 2 0 ≡ true) × (in_one_class joined 4 4 ≡ true) × (in_one_class joined 0 3 ≡ false) × (in_one_class joined 3 4 ≡ false)
unfolding drawn_facts edge pair
told_and_found = (one 0 2, one 2 0, one 4 4, one 0 3, one 3 4)

-- ---- 17 for an individual or a concept that is none of the book's, and a book's own fault before it

out_of_range : (questioned 4 0 (accepted joined) ≡ accepted joined) × (questioned 5 0 (accepted joined) ≡ refused 17) × (questioned 0 1 (accepted joined) ≡ refused 17) × (questioned 9 9 (refused 8) ≡ refused 8)
unfolding joined
out_of_range = (refl, refl, refl, refl)

-- ---- a run that does not finish gives its own end

ends : (judged true (Finished 5 6 7) ≡ Shown 5 6 7) × (judged false (Finished 5 6 7) ≡ NotShown 5 6 7) × (judged true Spent ≡ Ended Spent) × (judged true (Clash 5 6) ≡ Ended (Clash 5 6)) × (judged true (Refused 11) ≡ Ended (Refused 11))
ends = (refl, refl, refl, refl, refl)
