-- The worked examples hold: each by a computed test.
use Prim.Native.Nat.{ℕ}
use mathlib.Core.Path.{◌≡◌, refl, ap, sym, ◌∙◌}
use mathlib.Core.Bool.{Bool, true, false, ◌&&◌}
use mathlib.Core.List.{List, [], ◌∷◌}
use Rattle.book.specs.Role.{role_of_lem}
use Rattle.book.specs.Read.{several}
use Rattle.book.specs.Field.{byte, two_bytes_lem, four_bytes, field, fields_from, fields}
use Rattle.book.specs.Table.{statement_allows_lem}
use Rattle.book.specs.Header.{header}
use Rattle.book.specs.Concept.{concept_start_lem, part_list, bound, concept_tail_lem, concept_rest_lem, concept}
use Rattle.book.specs.Statement.{statement_start_lem, path_of_lem, axiom_of_lem, statement_end_lem, statement_rest_lem, statement}
use Rattle.book.specs.Tree.{part_trees}
use Rattle.book.specs.Bytes.{header_bytes}
use Rattle.book.specs.Within.{Every}
use Rattle.book.specs.Book.{Book, concepts, book, Decoded, refused, accepted, decode}
use Rattle.rules.specs.Fact.{edge, type, pair}
use Rattle.rules.specs.Rule.{Set}
use Rattle.rules.specs.Brought.{atomics, values, markers}
use Rattle.rules.specs.Meaning.{rules, conclusions}
use Rattle.rules.specs.Same.{same_pair}
use Rattle.rules.specs.Clash.{marked, type_clash, marker_clash, clashes}
use Rattle.rules.specs.Lists.{types, edges, pairs, used}
use Rattle.rules.specs.Ends.{Outcome, ends_with, outcome_from, starts_with, outcome_of}
use Rattle.rules.specs.Bars.{nines}
use Rattle.rules.proofs.Tests.{and_both}
use Rattle.rules.proofs.Inside.{Inside, accepted_inside}
use Rattle.rules.proofs.Bars.{mem, outcome_with, test_facts, are_facts}
use Rattle.effect.specs.Copy.{copied}
use Rattle.effect.specs.Effect.{had, news, difference, Effect, on_finished, by_itself, followed, effect}
use Rattle.effect.specs.Trials.{Trial, Holds, trials}

-- with listed facts in the place of the conclusions: what a run has, and a difference
abbrev had_with : Decoded → Set → Set
had_with (refused n) S = λ f. false
had_with (accepted B) S = S

abbrev difference_with : Decoded → Set → Set → ℕ → List ℕ → List ℕ → List ℕ → Outcome
difference_with d S P budget ts es ps = starts_with d budget ts es ps λ B. ends_with B S budget ts es ps (news ts es ps B S P)

module _ (d : Decoded) (inside : (B : Book) → d ≡ accepted B → Inside B) (l : List ℕ) (good : test_facts d l ≡ true) where
  outcome_with_lem : (budget : ℕ) (ts es ps : List ℕ) → outcome_of d budget ts es ps ≡ outcome_with budget ts es ps d (λ B. mem l)
  unfolding outcome_of
  outcome_with_lem budget ts es ps = go d inside good
    where
      go : (d : Decoded) → ((B : Book) → d ≡ accepted B → Inside B) → test_facts d l ≡ true → outcome_with budget ts es ps d conclusions ≡ outcome_with budget ts es ps d (λ B. mem l)
      go (refused n) i g = refl
      go (accepted B) i g = ap (λ (S : Set). outcome_with budget ts es ps (accepted B) (λ x. S)) (sym (are_facts B (i B refl) l g))

  had_with_lem : had d ≡ had_with d (mem l)
  had_with_lem = go d inside good
    where
      go : (d : Decoded) → ((B : Book) → d ≡ accepted B → Inside B) → test_facts d l ≡ true → had d ≡ had_with d (mem l)
      go (refused n) i g = refl
      go (accepted B) i g = ap (had_with (accepted B)) (sym (are_facts B (i B refl) l g))

  difference_with_lem : (P : Set) (budget : ℕ) (ts es ps : List ℕ) → difference d P budget ts es ps ≡ difference_with d (mem l) P budget ts es ps
  unfolding difference
  difference_with_lem P budget ts es ps = go d inside good
    where
      go : (d : Decoded) → ((B : Book) → d ≡ accepted B → Inside B) → test_facts d l ≡ true → (starts_with d budget ts es ps λ B. ends_with B (conclusions B) budget ts es ps (news ts es ps B (conclusions B) P)) ≡ difference_with d (mem l) P budget ts es ps
      go (refused n) i g = refl
      go (accepted B) i g = ap (λ (S : Set). difference_with (accepted B) S P budget ts es ps) (sym (are_facts B (i B refl) l g))

-- the computed test of a row: both lists of facts are the conclusions, and with them the effect is what the row says
abbrev first : Trial → Decoded → Outcome
first x d = outcome_with x.budget (nines x.present.types) (nines x.present.edges) (nines x.present.pairs) d (λ B. mem x.facts)

abbrev second : Trial → Decoded → Decoded → Outcome
second x d e = difference_with e (mem x.further_facts) (had_with d (mem x.facts)) x.budget (nines x.other.types) (nines x.other.edges) (nines x.other.pairs)

abbrev by : Trial → Outcome → Outcome → Effect
by x o c = on_finished o.end (by_itself o (nines x.other.types) (nines x.other.edges) (nines x.other.pairs)) (followed o c)

abbrev effect_with : Trial → Effect
effect_with x = let d = decode x.book in let e = decode (copied x.book x.line) in by x (first x d) (second x d e)

abbrev test : Trial → Bool
test x = test_facts (decode x.book) x.facts && test_facts (decode (copied x.book x.line)) x.further_facts

row_holds : (x : Trial) → test x ≡ true → effect_with x ≡ x.expected → Holds x
unfolding effect
row_holds x t q =
    let d = decode x.book in
    let e = decode (copied x.book x.line) in
    let a = and_both (test_facts d x.facts) (test_facts e x.further_facts) t in
    let now = outcome_with_lem d (accepted_inside x.book) x.facts a.0 x.budget (nines x.present.types) (nines x.present.edges) (nines x.present.pairs) in
    let was = had_with_lem d (accepted_inside x.book) x.facts a.0 in
    let then = difference_with_lem e (accepted_inside (copied x.book x.line)) x.further_facts a.1 (had d) x.budget (nines x.other.types) (nines x.other.edges) (nines x.other.pairs) in
    ap (λ (o : Outcome). by x o (difference e (had d) x.budget (nines x.other.types) (nines x.other.edges) (nines x.other.pairs))) now
    ∙ (ap (by x (first x d)) (then ∙ ap (λ (P : Set). difference_with e (mem x.further_facts) P x.budget (nines x.other.types) (nines x.other.edges) (nines x.other.pairs)) was)
    ∙ q)

-- all rows at once
abbrev tests : List Trial → Bool
tests [] = true
tests (x ∷ xs) = test x && tests xs

abbrev effects : List Trial → List Effect
effects [] = []
effects (x ∷ xs) = effect_with x ∷ effects xs

abbrev expected : List Trial → List Effect
expected [] = []
expected (x ∷ xs) = x.expected ∷ expected xs

all_hold : (xs : List Trial) → tests xs ≡ true → effects xs ≡ expected xs → Every Holds xs
all_hold [] e q = tt
all_hold (x ∷ xs) e q =
    let a = and_both (test x) (tests xs) e in
    let one : effect_with x ≡ x.expected = cc in
    let others : effects xs ≡ expected xs = cc in
    (row_holds x a.0 one, all_hold xs a.1 others)

tests_come_out : tests trials ≡ true
unfolding trials header_bytes copied role_of_lem several byte two_bytes_lem four_bytes field fields_from fields statement_allows_lem header concept_start_lem part_list bound concept_tail_lem concept_rest_lem concept statement_start_lem path_of_lem axiom_of_lem statement_end_lem statement_rest_lem statement part_trees concepts book decode edge type pair atomics values markers rules same_pair marked type_clash marker_clash clashes types edges pairs used outcome_from
tests_come_out = refl

effects_come_out : effects trials ≡ expected trials
unfolding trials header_bytes copied role_of_lem several byte two_bytes_lem four_bytes field fields_from fields statement_allows_lem header concept_start_lem part_list bound concept_tail_lem concept_rest_lem concept statement_start_lem path_of_lem axiom_of_lem statement_end_lem statement_rest_lem statement part_trees concepts book decode edge type pair atomics values markers rules same_pair marked type_clash marker_clash clashes types edges pairs used outcome_from
effects_come_out = refl

pub table : Every Holds trials
table = all_hold trials tests_come_out effects_come_out

-- ---- the 4,097th statement: 6, by the header alone, and before any fault of the record; the 4,096th is read on

full_header : (decode (copied (0x10 ∷ 0x00 ∷ 0x10 ∷ []) []) ≡ refused 6) × (decode (copied (0x10 ∷ 0xFF ∷ 0x0F ∷ []) []) ≡ refused 4)
unfolding header_bytes copied role_of_lem several byte two_bytes_lem four_bytes field fields_from fields statement_allows_lem header concept_start_lem part_list bound concept_tail_lem concept_rest_lem concept statement_start_lem path_of_lem axiom_of_lem statement_end_lem statement_rest_lem statement part_trees concepts book decode edge type pair atomics values markers rules same_pair marked type_clash marker_clash clashes types edges pairs used outcome_from
full_header = (refl, refl)
