-- Entries, put into the tables one after the other, add what their statement says.
use Prim.Native.Nat.{ℕ, ◌+◌, ◌*◌, ◌<◌, ◌≤◌}
use native.Mathlib.Omega.{arith}
use mathlib.Core.Path.{◌≡◌, refl, ap, subst, ◌∙◌}
use mathlib.Core.List.{List, [], ◌∷◌}
use lib.ListN.{length, get_or}
use denote.Enum.Declared.{tag_of}
use types.Run.{miss}
use borrow.Enum.Refused.{Among, opened}
use Rattle.book.specs.Book.{Book}
use Rattle.book.specs.declared.header.Counts.{Counts}
use Rattle.book.specs.declared.statement.Axiom.{Axiom}
use Rattle.rows.specs.Row.{Put}
use Rattle.rules.specs.Fact.{Two, two}
use Rattle.tables.specs.Leaf.{LeafWithin, Leaves}
use Rattle.tables.specs.Tables.{With, Labelled, LabelsWith}
use Rattle.tables.proofs.Tables.{with_none, with_one, with_then}
use Rattle.tables.proofs.leaf.Books.{leaf_book, leaves_of_book}
use Rattle.tables.proofs.same.Labelling.{joins_none}
use Rattle.said.specs.Said.{Said, plus, says_by}
use Rattle.derivation.specs.Entry.{of_entry}
use Rattle.said.specs.declared.layout.Relation.TheVariants as relation
use Rattle.derivation.specs.declared.entry.Entry.{Entry}
use Rattle.derivation.specs.declared.entry.Entry.TheVariants.{Nothing, Functional, Disjoint, Above, Taker, Asserted, TwoRoles, ThreeRoles, Same, Edge}
use Rattle.derivation.specs.contracts.entry.Entry.{the_type}
use Rattle.said.proofs.enter.Says.{alike}
use Rattle.tables.proofs.same.Labelling.{labels_then}
use Rattle.derivation.specs.Entering.{Rooms, WithSaid, Added, WithSaidIn, Tied, Kept}
use Rattle.derivation.specs.declared.enter.Marks.{Marks}

-- ---- one entry, by its kind

-- the tags of those that pass
abbrev pub passing : List ℕ
passing = 0 ∷ 3 ∷ 5 ∷ 6 ∷ 7 ∷ 9 ∷ []

module _ {h : Counts} {T J P F K : List ℕ} (n : Labelled h.individuals K) where
  pub put_taker : {T' : List ℕ} {e : Entry} (k x : ℕ) → e ≡ Taker k x → x < 512 → Put T (k * 512 + x) T' → WithSaid h (of_entry e) T J P F K T' J P F K
  put_taker k x e l p = rw e (record { takers = with_one k x l p; disjoint = with_none; pairs = with_none; functional = with_none; labels = joins_none n })

  pub put_disjoint : {J' P' : List ℕ} {e : Entry} (c d : ℕ) → e ≡ Disjoint c d → d < 512 → Put J (c * 512 + d) J' → Put P (c * 512 + d) P' → WithSaid h (of_entry e) T J P F K T J' P' F K
  put_disjoint c d e l p q = rw e (record { takers = with_none; disjoint = with_one c d l p; pairs = with_one c d l q; functional = with_none; labels = joins_none n })

  pub put_functional_lem : {F' : List ℕ} {e : Entry} (f : ℕ) → e ≡ Functional f → f < 512 → Put F (0 * 512 + f) F' → WithSaid h (of_entry e) T J P F K T J P F' K
  put_functional_lem f e l p = rw e (record { takers = with_none; disjoint = with_none; pairs = with_none; functional = with_one 0 f l p; labels = joins_none n })

  said_none : {f : Said} → f.pairs relation.Takers ≡ [] → f.pairs relation.Disjoint ≡ [] → f.pairs relation.Functional ≡ [] → f.same ≡ [] → WithSaid h f T J P F K T J P F K
  said_none t d f s = record { takers = rw t with_none; disjoint = rw d with_none; pairs = rw d with_none; functional = rw f with_none; labels = rw s (joins_none n) }

  pub passed : (e : Entry) → Among passing (tag_of the_type e) → WithSaid h (of_entry e) T J P F K T J P F K
  passed Nothing k = said_none refl refl refl refl
  passed (Functional f) k = absurd (miss passing 1 tt (opened k))
  passed (Disjoint c d) k = absurd (miss passing 2 tt (opened k))
  passed (Above f g) k = said_none refl refl refl refl
  passed (Taker c x) k = absurd (miss passing 4 tt (opened k))
  passed (Asserted c i) k = said_none refl refl refl refl
  passed (TwoRoles r s t) k = said_none refl refl refl refl
  passed (ThreeRoles r s u t) k = said_none refl refl refl refl
  passed (Same a b) k = absurd (miss passing 8 tt (opened k))
  passed (Edge r a b) k = said_none refl refl refl refl

pub put_same : {h : Counts} {T J P F K K' : List ℕ} {e : Entry} (a b : ℕ) → e ≡ Same a b → LabelsWith h.individuals K (two a b ∷ []) K' → WithSaid h (of_entry e) T J P F K T J P F K'
put_same a b e w = rw e (record { takers = with_none; disjoint = with_none; pairs = with_none; functional = with_none; labels = w })

-- ---- both entries of a statement

pub said_then : {h : Counts} (f g : Said) {T J P F K T' J' P' F' K' T'' J'' P'' F'' K'' : List ℕ} → WithSaid h f T J P F K T' J' P' F' K' → WithSaid h g T' J' P' F' K' T'' J'' P'' F'' K''
    → WithSaid h (plus f g) T J P F K T'' J'' P'' F'' K''
said_then f g a b = record {
  takers = with_then a.takers b.takers;
  disjoint = with_then a.disjoint b.disjoint;
  pairs = with_then a.pairs b.pairs;
  functional = with_then a.functional b.functional;
  labels = labels_then a.labels b.labels;
}

-- the tables keep their room
pub rooms_stay : {h : Counts} {f : Said} {T J P F K T' J' P' F' K' : List ℕ} → Rooms h T J P F → WithSaid h f T J P F K T' J' P' F' K' → Rooms h T' J' P' F'
rooms_stay r w = record {
  takers = omega (arith, r.takers, w.takers.len);
  disjoint = omega (arith, r.disjoint, w.disjoint.len);
  pairs = omega (arith, r.pairs, w.pairs.len);
  functional = omega (arith, r.functional, w.functional.len);
}

-- table by table, what is said is what the statement adds; functional fields and same individuals are so whatever the concepts are
pub said_added : {h : Counts} {L : List ℕ} {x : Axiom} {f : Said} {T J P F K T' J' P' F' K' : List ℕ} → h.concepts ≤ length L → ((k : ℕ) → k < h.concepts → LeafWithin h (get_or L k 0))
    → ((B : Book) → Leaves h B h.concepts L → f ≡ says_by B x) → WithSaid h f T J P F K T' J' P' F' K' → Added h L x T J P F K T' J' P' F' K'
said_added {h} {L} {x} {f} {T} {J} {P} {F} {K} {T'} {J'} {P'} {F'} {K'} room within says w = record {
  takers = λ B v. subst (λ (l : List Two). With T l T') (ap (λ (s : Said). s.pairs relation.Takers) (says B v) ∙ (alike B x).takers) w.takers;
  disjoint = λ B v. subst (λ (l : List Two). With J l J') (ap (λ (s : Said). s.pairs relation.Disjoint) (says B v) ∙ (alike B x).disjoint) w.disjoint;
  pairs = λ B v. subst (λ (l : List Two). With P l P') (ap (λ (s : Said). s.pairs relation.Disjoint) (says B v) ∙ (alike B x).disjoint) w.pairs;
  functional = subst (λ (l : List Two). With F l F') (ap (λ (s : Said). s.pairs relation.Functional) says_any ∙ (alike any x).functional) w.functional;
  labels = subst (λ (l : List Two). LabelsWith h.individuals K l K') (ap (λ (s : Said). s.same) says_any ∙ (alike any x).same) w.labels;
}
  where
    any : Book
    any = leaf_book h L

    says_any : f ≡ says_by any x
    says_any = says any (leaves_of_book h L room within)

-- ---- the lists that are lent stay

pub kept_none : {x : Marks} → Kept x x
kept_none = record { takers = refl; takers_len = refl; disjoint = refl; disjoint_len = refl; pairs = refl; pairs_len = refl; functional = refl; functional_len = refl; labels = refl; labels_len = refl }

pub kept_then : {x y z : Marks} → Kept x y → Kept y z → Kept x z
kept_then v w = record { takers = w.takers ∙ v.takers; takers_len = w.takers_len ∙ v.takers_len; disjoint = w.disjoint ∙ v.disjoint; disjoint_len = w.disjoint_len ∙ v.disjoint_len; pairs = w.pairs ∙ v.pairs; pairs_len = w.pairs_len ∙ v.pairs_len; functional = w.functional ∙ v.functional; functional_len = w.functional_len ∙ v.functional_len; labels = w.labels ∙ v.labels; labels_len = w.labels_len ∙ v.labels_len }

pub kept_by : {h : Counts} {f : Said} {x y : Marks} → WithSaidIn h f x y → Tied x y → Kept x y
kept_by w t = record { takers = t.takers; takers_len = w.takers.len; disjoint = t.disjoint; disjoint_len = w.disjoint.len; pairs = t.pairs; pairs_len = w.pairs.len; functional = t.functional; functional_len = w.functional.len; labels = t.labels; labels_len = w.labels.len }
