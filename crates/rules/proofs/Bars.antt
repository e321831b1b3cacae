-- The table of worked examples, by one theorem: a list of facts that obeys the rules, each drawn from those before it, is the conclusions.
use Prim.Native.Nat.{ℕ, zero, suc, ◌<◌}
use native.Mathlib.Decide.{ℕ_discrete}
use native.Mathlib.Omega.{arith}
use mathlib.Core.Path.{◌≡◌, refl, ap, sym, ◌∙◌, subst}
use mathlib.Core.Bool.{Bool, true, false, ◌&&◌, ◌||◌}
use mathlib.Core.List.{List, [], ◌∷◌}
use mathlib.Core.Logic.{⊎_elim}
use lib.Dec.{eqb}
use borrow.Author.Tests.{eqb-true}
use Rattle.book.specs.Role.{role_of_lem}
use Rattle.book.specs.Read.{several}
use Rattle.book.specs.Field.{byte, two_bytes_lem, four_bytes, field, fields_from, fields}
use Rattle.book.specs.Table.{statement_allows_lem}
use Rattle.book.specs.Header.{header}
use Rattle.book.specs.Concept.{concept_start_lem, part_list, bound, concept_tail_lem, concept_rest_lem, concept}
use Rattle.book.specs.Statement.{statement_start_lem, path_of_lem, axiom_of_lem, statement_end_lem, statement_rest_lem, statement}
use Rattle.book.specs.Tree.{part_trees}
use Rattle.book.specs.Book.{Book, concepts, book, Decoded, refused, accepted, decode}
use Rattle.rules.specs.Fact.{edge, type, pair}
use Rattle.rules.specs.Rule.{Set, Rule, keep, when, each, both, Obeys, yields}
use Rattle.rules.specs.Brought.{atomics, values, markers}
use Rattle.rules.specs.Meaning.{rules, conclusions}
use Rattle.rules.specs.Same.{same_pair}
use Rattle.rules.specs.Clash.{marked, type_clash, marker_clash, clashes}
use Rattle.rules.specs.Lists.{types, edges, pairs, used}
use Rattle.rules.specs.Ends.{End, Refused, Spent, Clash, Finished, Outcome, outcome_from, starts_with, outcome_of}
use Rattle.book.specs.Within.{Every}
use Rattle.rules.specs.Applied.{In}
use Rattle.rules.specs.Bars.{Bar, nines, expected, Holds, plain_bar, bars}
use Rattle.rules.proofs.Tests.{false_true, or_cases, and_both}
use Rattle.rules.proofs.Least.{yields_in}
use Rattle.rules.proofs.Inside.{Inside, accepted_inside}
use Rattle.rules.proofs.Conclusions.{are_conclusions}

-- the set of a list
abbrev pub mem : List ℕ → Set
mem [] f = false
mem (x ∷ l) f = eqb f x || mem l f

abbrev pub implies : Bool → Bool → Bool
implies true b = b
implies false b = true

abbrev pub all : ℕ → (ℕ → Bool) → Bool
all zero f = true
all (suc n) f = f n && all n f

-- whether a set obeys a rule
abbrev pub obeys : Rule → Set → Bool
obeys (keep k) P = P k
obeys (when k R) P = let r = obeys R P in implies (P k) r
obeys (each n R) P = all n (λ k. obeys (R k) P)
obeys (both R Q) P = obeys R P && obeys Q P

-- whether each fact of a list follows by one use from those drawn before
abbrev pub drawn : Rule → List ℕ → Bool
drawn R [] = true
drawn R (f ∷ l) = yields R (mem l) f && drawn R l

implies_true : (a b : Bool) → implies a b ≡ true → a ≡ true → b ≡ true
implies_true true b e h = e
implies_true false b e h = false_true h

all_true : (n : ℕ) (f : ℕ → Bool) → all n f ≡ true → (k : ℕ) → k < n → f k ≡ true
all_true zero f e k l = absurd (omega arith)
all_true (suc n) f e k l = go (ℕ_discrete k n) (λ h. all_true n f (and_both (f n) (all n f) e).1 k h)
  where
    go : Dec (k ≡ n) → (k < n → f k ≡ true) → f k ≡ true
    go (yes q) r = subst (λ (x : ℕ). f x ≡ true) (sym q) (and_both (f n) (all n f) e).0
    go (no q) r = r (omega arith)

obeys_true : (R : Rule) (P : Set) → obeys R P ≡ true → Obeys R P
obeys_true (keep k) P e = e
obeys_true (when k R) P e = λ h. obeys_true R P (implies_true (P k) (obeys R P) e h)
obeys_true (each n R) P e = λ k l. obeys_true (R k) P (all_true n (λ x. obeys (R x) P) e k l)
obeys_true (both R Q) P e = let b = and_both (obeys R P) (obeys Q P) e in (obeys_true R P b.0, obeys_true Q P b.1)

drawn_in : (R : Rule) (l : List ℕ) → drawn R l ≡ true → (Q : Set) → Obeys R Q → In (mem l) Q
drawn_in R [] e Q o f h = false_true h
drawn_in R (x ∷ l) e Q o f h =
    let b = and_both (yields R (mem l) x) (drawn R l) e in
    ⊎_elim (λ q. subst (λ (y : ℕ). Q y ≡ true) (sym (eqb-true f x q)) (yields_in R (mem l) Q o (drawn_in R l b.1 Q o) x b.0)) (λ m. drawn_in R l b.1 Q o f m) (or_cases (eqb f x) (mem l f) h)

-- equal ends, lists, outcomes
abbrev pub same_list : List ℕ → List ℕ → Bool
same_list [] [] = true
same_list [] (y ∷ m) = false
same_list (x ∷ l) [] = false
same_list (x ∷ l) (y ∷ m) = eqb x y && same_list l m

list_true : (l m : List ℕ) → same_list l m ≡ true → l ≡ m
list_true [] [] e = refl
list_true [] (y ∷ m) e = false_true e
list_true (x ∷ l) [] e = false_true e
list_true (x ∷ l) (y ∷ m) e =
    let b = and_both (eqb x y) (same_list l m) e in
    let p : x ≡ y = eqb-true x y b.0 in
    let q : l ≡ m = list_true l m b.1 in
    cc

abbrev pub code : End → List ℕ
code (Refused n) = 0 ∷ n ∷ []
code Spent = 1 ∷ []
code (Clash t e) = 2 ∷ t ∷ e ∷ []
code (Finished t e p) = 3 ∷ t ∷ e ∷ p ∷ []

abbrev uncode : ℕ → List ℕ → End
uncode zero [] = Spent
uncode zero (n ∷ l) = Refused n
uncode (suc zero) l = Spent
uncode (suc (suc zero)) [] = Spent
uncode (suc (suc zero)) (t ∷ []) = Spent
uncode (suc (suc zero)) (t ∷ e ∷ l) = Clash t e
uncode (suc (suc (suc k))) [] = Spent
uncode (suc (suc (suc k))) (t ∷ []) = Spent
uncode (suc (suc (suc k))) (t ∷ e ∷ []) = Spent
uncode (suc (suc (suc k))) (t ∷ e ∷ p ∷ l) = Finished t e p

abbrev decode_end : List ℕ → End
decode_end [] = Spent
decode_end (k ∷ l) = uncode k l

decode_end_code : (e : End) → decode_end (code e) ≡ e
decode_end_code (Refused n) = refl
decode_end_code Spent = refl
decode_end_code (Clash t e) = refl
decode_end_code (Finished t e p) = refl

end_true : (x y : End) → same_list (code x) (code y) ≡ true → x ≡ y
end_true x y e = sym (decode_end_code x) ∙ (ap decode_end (list_true (code x) (code y) e) ∙ decode_end_code y)

abbrev pub same_outcome : Outcome → Outcome → Bool
same_outcome x y = same_list (code x.end) (code y.end) && (same_list x.types y.types && (same_list x.edges y.edges && same_list x.pairs y.pairs))

outcome_true : (x y : Outcome) → same_outcome x y ≡ true → x ≡ y
outcome_true x y e =
    let a = and_both (same_list (code x.end) (code y.end)) _ e in
    let b = and_both (same_list x.types y.types) _ a.1 in
    let c = and_both (same_list x.edges y.edges) (same_list x.pairs y.pairs) b.1 in
    let p = end_true x.end y.end a.0 in
    let q = list_true x.types y.types b.0 in
    let r = list_true x.edges y.edges c.0 in
    let s = list_true x.pairs y.pairs c.1 in
    λ i. record { end = p i; types = q i; edges = r i; pairs = s i }

-- the outcome of a run, with a set in the place of the conclusions
module _ (budget : ℕ) (ts es ps : List ℕ) where
  abbrev pub outcome_with : Decoded → (Book → Set) → Outcome
  outcome_with d S = starts_with d budget ts es ps λ B. outcome_from B (S B) budget ts es ps

  outcome_accepted : (B : Book) (P : Set) → P ≡ conclusions B → outcome_with (accepted B) conclusions ≡ outcome_with (accepted B) (λ x. P)
  outcome_accepted B P e = ap (λ (S : Set). outcome_with (accepted B) (λ x. S)) (sym e)

-- the computed test of a row
abbrev pub test_facts : Decoded → List ℕ → Bool
test_facts (refused n) l = true
test_facts (accepted B) l = obeys (rules B) (mem l) && drawn (rules B) l

-- facts that obey the rules and were each drawn by them are the conclusions
pub are_facts : (B : Book) → Inside B → (l : List ℕ) → test_facts (accepted B) l ≡ true → mem l ≡ conclusions B
are_facts B inside l t =
    let f = and_both (obeys (rules B) (mem l)) (drawn (rules B) l) t in
    are_conclusions B inside (mem l) (obeys_true (rules B) (mem l) f.0) (drawn_in (rules B) l f.1)

-- the computed test of a run on what was read, where the facts l are said to be the conclusions, and o the outcome
abbrev pub test_row : Decoded → List ℕ → ℕ → List ℕ → List ℕ → List ℕ → Outcome → Bool
test_row d l budget ts es ps o = test_facts d l && same_outcome (outcome_with budget ts es ps d (λ B. mem l)) o

-- THE theorem: a row whose test comes out holds
pub row_holds : (d : Decoded) → ((B : Book) → d ≡ accepted B → Inside B) → (l : List ℕ) (budget : ℕ) (ts es ps : List ℕ) (o : Outcome) → test_row d l budget ts es ps o ≡ true → outcome_of d budget ts es ps ≡ o
unfolding outcome_of
row_holds (refused n) inside l budget ts es ps o t = outcome_true (outcome_with budget ts es ps (refused n) (λ B. mem l)) o t
row_holds (accepted B) inside l budget ts es ps o t =
    let a = and_both (test_facts (accepted B) l) (same_outcome (outcome_with budget ts es ps (accepted B) (λ B. mem l)) o) t in
    outcome_accepted budget ts es ps B (mem l) (are_facts B (inside B refl) l a.0)
    ∙ outcome_true (outcome_with budget ts es ps (accepted B) (λ B. mem l)) o a.1

unfoldable pub test : Bar → Bool
test b = let d = decode b.book in test_row d b.facts b.budget (nines b.type_room) (nines b.edge_room) (nines b.pair_room) (expected b)

pub bar_holds : (b : Bar) → test b ≡ true → Holds b
unfolding test
bar_holds b e = row_holds (decode b.book) (λ B q. accepted_inside b.book B q) b.facts b.budget (nines b.type_room) (nines b.edge_room) (nines b.pair_room) (expected b) e

abbrev tests : List Bar → Bool
tests [] = true
tests (b ∷ bs) = test b && tests bs

all_hold : (bs : List Bar) → tests bs ≡ true → Every Holds bs
all_hold [] e = tt
all_hold (b ∷ bs) e = let a = and_both (test b) (tests bs) e in (bar_holds b a.0, all_hold bs a.1)

-- the table
tests_come_out : tests bars ≡ true
unfolding test bars plain_bar role_of_lem several byte two_bytes_lem four_bytes field fields_from fields statement_allows_lem header concept_start_lem part_list bound concept_tail_lem concept_rest_lem concept statement_start_lem path_of_lem axiom_of_lem statement_end_lem statement_rest_lem statement part_trees concepts book decode edge type pair atomics values markers rules same_pair marked type_clash marker_clash clashes types edges pairs used outcome_from
tests_come_out = refl

pub table : Every Holds bars
table = all_hold bars tests_come_out

-- one row by itself
plain_test : test plain_bar ≡ true
unfolding test plain_bar role_of_lem several byte two_bytes_lem four_bytes field fields_from fields statement_allows_lem header concept_start_lem part_list bound concept_tail_lem concept_rest_lem concept statement_start_lem path_of_lem axiom_of_lem statement_end_lem statement_rest_lem statement part_trees concepts book decode edge type pair atomics values markers rules same_pair marked type_clash marker_clash clashes types edges pairs used outcome_from
plain_test = refl

pub plain_holds : Holds plain_bar
plain_holds = bar_holds plain_bar plain_test
