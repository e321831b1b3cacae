-- What is shown is the same by facts and classes that agree on the book's own numbers; so what the table and the rows of a run show is what
-- the conclusions of its book show.
use Prim.Native.Nat.{ℕ, ◌<◌}
use native.Mathlib.Omega.{arith}
use mathlib.Core.Path.{◌≡◌, refl, ap, sym, ◌∙◌, subst}
use mathlib.Core.Bool.{Bool, ◌&&◌}
use mathlib.Core.List.{List}
use lib.ListN.{get_or}
use lib.Dec.{eqb}
use borrow.Author.Tests.{lt-ltb, eqb-true, eq-eqb}
use Rattle.book.specs.Tree.{Concept, Concepts, Top, Bot, Atomic, Nominal, SelfRestriction, Not, And, Or, Some, All, Min, Max, none, more}
use Rattle.book.specs.Header.{Limits}
use Rattle.book.specs.Within.{RoleWithin}
use Rattle.book.specs.Book.{Book}
use Rattle.book.specs.declared.header.Counts.{Counts}
use Rattle.book.specs.declared.role.Role.{Role}
use Rattle.rows.specs.Row.{has}
use Rattle.rows.specs.declared.table.Size.{Size}
use Rattle.rules.specs.Fact.{edge, type, pair}
use Rattle.rules.specs.Rule.{Set, any}
use Rattle.rules.specs.Brought.{concept}
use Rattle.rules.specs.Meaning.{conclusions}
use Rattle.rules.specs.Applied.{alike}
use Rattle.rules.proofs.Tests.{both_ways, and_both, and_intro, any_some, some_any, any_same}
use Rattle.rules.proofs.Facts.{set_edge, set_type, set_pair}
use Rattle.rules.proofs.Inside.{ConceptIn, ConceptsIn, Inside}
use Rattle.tables.specs.Open.{size_of}
use Rattle.tables.specs.Tables.{Labelled, Grouped}
use Rattle.rounds.specs.View.{edge_in_lem, type_in, facts, held}
use Rattle.member.specs.Shown.{shown, shown_all, shown_some, in_one_class, shown_in}
use Rattle.judging.specs.Memo.{facts_in, class_in_lem, shown_by}

-- the facts of S and T, and the classes C and D, agree on the numbers of h
pub record Agree (h : Counts) (S T : Set) (C D : ℕ → ℕ → Bool) : Type 0 where
  pub types : (i c : ℕ) → i < h.individuals → c < h.classes → S (type i c) ≡ T (type i c)
  pub edges : (ρ : Role) (a b : ℕ) → RoleWithin h ρ → a < h.individuals → b < h.individuals → S (edge ρ a b) ≡ T (edge ρ a b)
  pub classes : (i b : ℕ) → i < h.individuals → b < h.individuals → C i b ≡ D i b

module _ {h : Counts} {S T : Set} {C D : ℕ → ℕ → Bool} (agree : Agree h S T C D) where
  abbrev n : ℕ
  n = h.individuals

  mutual
    shown_agree : (e : Concept) → ConceptIn h e → (i : ℕ) → i < n → shown n S C e i ≡ shown n T D e i
    shown_agree Top w i l = refl
    shown_agree Bot w i l = refl
    shown_agree (Atomic c) w i l = agree.types i c l w
    shown_agree (Nominal b) w i l = agree.classes i b l w
    shown_agree (SelfRestriction ρ) w i l = agree.edges ρ i i w l l
    shown_agree (Not e) w i l = refl
    shown_agree (And es) w i l = all_agree es w i l
    shown_agree (Or es) w i l = some_agree es w i l
    shown_agree (Some ρ e) w i l = any_same n _ _ (λ j m. rw (agree.edges ρ i j w.0 l m, shown_agree e w.1 j m) refl)
    shown_agree (All ρ e) w i l = refl
    shown_agree (Min m ρ e) w i l = refl
    shown_agree (Max m ρ e) w i l = refl

    all_agree : (es : Concepts) → ConceptsIn h es → (i : ℕ) → i < n → shown_all n S C es i ≡ shown_all n T D es i
    all_agree none w i l = refl
    all_agree (more e es) w i l = rw (shown_agree e w.0 i l, all_agree es w.1 i l) refl

    some_agree : (es : Concepts) → ConceptsIn h es → (i : ℕ) → i < n → shown_some n S C es i ≡ shown_some n T D es i
    some_agree none w i l = refl
    some_agree (more e es) w i l = rw (shown_agree e w.0 i l, some_agree es w.1 i l) refl

-- the table t and the rows g, of the labels K, show the facts and the classes of `held`
module _ (h : Counts) (limits : Limits h) (K t g : List ℕ) (labelled : Labelled h.individuals K) (grouped : Grouped h.individuals K g) where
  abbrev z : Size
  z = size_of h

  abbrev kind : ℕ → ℕ
  kind i = get_or K i 0

  type_held : (i c : ℕ) → i < h.individuals → c < h.classes → facts_in h t (type i c) ≡ held z K t (type i c)
  unfolding facts held
  type_held i c k l =
      let few = limits.individuals_top in
      let low = limits.classes_top in
      set_type (edge_in_lem z t) (type_in z t) _ i c (omega arith) (omega arith) ∙ sym (set_type (edge_in_lem z t) (type_in z t) (alike h.individuals kind) i c (omega arith) (omega arith))

  edge_held : (ρ : Role) (a b : ℕ) → RoleWithin h ρ → a < h.individuals → b < h.individuals → facts_in h t (edge ρ a b) ≡ held z K t (edge ρ a b)
  unfolding facts held
  edge_held ρ a b w k l =
      let few = limits.individuals_top in
      let low = limits.roles_top in
      set_edge (edge_in_lem z t) (type_in z t) _ ρ a b (omega arith) (omega arith) (omega arith)
      ∙ sym (set_edge (edge_in_lem z t) (type_in z t) (alike h.individuals kind) ρ a b (omega arith) (omega arith) (omega arith))

  -- two stand in one row if they have one label
  row_labels : (i b : ℕ) → i < h.individuals → b < h.individuals → class_in_lem h.individuals g i b ≡ eqb (kind i) (kind b)
  unfolding class_in_lem
  row_labels i b k l =
      both_ways (any h.individuals (λ x. has g x i && has g x b)) (eqb (kind i) (kind b))
      (λ q. let a = any_some h.individuals (λ x. has g x i && has g x b) q in
      let v = and_both (has g a.0 i) (has g a.0 b) a.2 in
      let x = eqb-true (kind i) a.0 (sym (grouped.rows a.0 i a.1 k) ∙ v.0) in
      let y = eqb-true (kind b) a.0 (sym (grouped.rows a.0 b a.1 l) ∙ v.1) in
      eq-eqb (kind i) (kind b) (x ∙ sym y))
      (λ q. let m = labelled.low i k in
      some_any h.individuals (λ x. has g x i && has g x b) (kind i) m
      (and_intro (has g (kind i) i) (has g (kind i) b) (grouped.rows (kind i) i m k ∙ eq-eqb (kind i) (kind i) refl)
      (grouped.rows (kind i) b m l ∙ eq-eqb (kind b) (kind i) (sym (eqb-true (kind i) (kind b) q)))))

  class_held_lem : (i b : ℕ) → i < h.individuals → b < h.individuals → class_in_lem h.individuals g i b ≡ held z K t (pair i b)
  unfolding held
  class_held_lem i b k l =
      let few = limits.individuals_top in
      row_labels i b k l ∙ sym (set_pair (edge_in_lem z t) (type_in z t) (alike h.individuals kind) i b (omega arith) ∙ rw (lt-ltb i h.individuals k, lt-ltb b h.individuals l) refl)

  agree_held : Agree h (facts_in h t) (held z K t) (class_in_lem h.individuals g) (λ i b. held z K t (pair i b))
  agree_held = record { types = type_held; edges = edge_held; classes = class_held_lem }

-- SO where `held` is the conclusions of a book, what is shown by table and rows is what is shown in the book
module _ {B : Book} {h : Counts} (inside : Inside B) (counts : B.counts ≡ h) (K t g : List ℕ) (labelled : Labelled h.individuals K) (grouped : Grouped h.individuals K g) (same : held (size_of h) K t ≡ conclusions B) where
  limits : Limits h
  limits = subst Limits counts inside.limits

  pub shown_held : (i c : ℕ) → i < h.individuals → shown_by h t g (concept B c) i ≡ shown_in B i c
  unfolding shown_in in_one_class
  shown_held i c l =
      shown_agree (agree_held h limits K t g labelled grouped) (concept B c) (subst (λ (x : Counts). ConceptIn x (concept B c)) counts (inside.concepts c)) i l
      ∙ (ap (λ (X : Set). shown h.individuals X (λ j b. X (pair j b)) (concept B c) i) same
      ∙ ap (λ (x : Counts). shown x.individuals (conclusions B) (λ j b. conclusions B (pair j b)) (concept B c) i) (sym counts))
