-- Conclusions ignore sources and days: two books that are equal but for those of their statements have equal conclusions, and every run of the
-- one that names neither reader nor day ends as that of the other, lists included.
use Prim.Native.Nat.{ℕ}
use mathlib.Core.Path.{◌≡◌, sym, ap, ap₂, ◌∙◌, subst}
use mathlib.Core.List.{List}
use Rattle.book.specs.declared.header.Counts.{Counts}
use Rattle.book.specs.declared.statement.Axiom.{Axiom}
use Rattle.book.specs.Tree.{Concept}
use Rattle.book.specs.Within.{Every}
use Rattle.book.specs.Book.{Book, axioms, accepted, decode}
use Rattle.rules.specs.Rule.{Set}
use Rattle.rules.specs.Meaning.{conclusions}
use Rattle.rules.specs.Ends.{outcome_from, outcome_of, outcome}
use Rattle.rules.proofs.Inside.{Inside, accepted_inside}
use Rattle.rules.proofs.Members.{conclusions_same, outcome_same}

-- equal but for the sources and days of their statements
pub record SameButSources (A B : Book) : Type 0 where
  pub counts : A.counts ≡ B.counts
  pub concepts : A.concepts ≡ B.concepts
  pub axioms : axioms A ≡ axioms B

module _ (A B : Book) (alike : SameButSources A B) where
  to : (P : Axiom → Type 0) → Every P (axioms B) → Every P (axioms A)
  to P h = subst (Every P) (sym alike.axioms) h

  back : (P : Axiom → Type 0) → Every P (axioms A) → Every P (axioms B)
  back P h = subst (Every P) alike.axioms h

  -- B with the statements of A
  between : Book
  between = record { counts = B.counts; concepts = B.concepts; statements = A.statements }

  is_between : A ≡ between
  unfolding between
  is_between = ap₂ (λ (h : Counts) (ts : List Concept). record { counts = h; concepts = ts; statements = A.statements }) alike.counts alike.concepts

  pub conclusions_ignore : Inside A → Inside B → conclusions A ≡ conclusions B
  unfolding between
  conclusions_ignore a b =
      ap conclusions is_between
      ∙ conclusions_same B B.counts.statements A.statements to back b (subst Inside is_between a)

  run_ignores : Inside A → Inside B → (budget : ℕ) (ts es ps : List ℕ) → outcome_from A (conclusions A) budget ts es ps ≡ outcome_from B (conclusions B) budget ts es ps
  unfolding between
  run_ignores a b budget ts es ps =
      ap₂ (λ (C : Book) (S : Set). outcome_from C S budget ts es ps) is_between (conclusions_ignore a b)
      ∙ outcome_same B B.counts.statements A.statements to back (conclusions B) budget ts es ps

-- on bytes
pub sources_ignored : (s t : List ℕ) (A B : Book) → decode s ≡ accepted A → decode t ≡ accepted B → SameButSources A B → (budget : ℕ) (ts es ps : List ℕ) → outcome s budget ts es ps ≡ outcome t budget ts es ps
unfolding outcome_of
sources_ignored s t A B p q alike budget ts es ps = simp (p, q, run_ignores A B alike (accepted_inside s A p) (accepted_inside t B q))
