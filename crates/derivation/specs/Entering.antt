-- How the statements of a book are entered (src/enter.rt).
use Rattle.std.specs.Prelude.{ℕ, ◌*◌, ◌≤◌, ◌≡◌, List, ◌++◌, length}
use Rattle.book.specs.Header.{Limits}
use Rattle.book.specs.Book.{Book}
use Rattle.book.specs.Statement.{bodies}
use Rattle.book.specs.Reader.{rest}
use Rattle.book.specs.declared.header.Counts.{Counts}
use Rattle.book.specs.declared.statement.Axiom.{Axiom}
use Rattle.rules.specs.Brought.{from}
use Rattle.rules.specs.Clash.{disjoint_by}
use Rattle.rules.specs.ToldSame.{same_by, labels}
use Rattle.tables.specs.Leaf.{Leaves}
use Rattle.tables.specs.Open.{book_of}
use Rattle.tables.specs.Tables.{Blank, Pairs, With, Labelled, Labels, LabelsWith, takers_by, functionals_by}
use Rattle.said.specs.Said.{Said}
use Rattle.said.specs.declared.layout.Relation.TheVariants as relation
use Rattle.derivation.specs.Accept.{statements}
use Rattle.derivation.specs.Tables.{Starts}
use Rattle.derivation.specs.declared.enter.Marks.{Marks}

-- the tables have room: what takes a concept T, disjoint pairs J and clashing ones P, functional fields F
pub record Rooms (h : Counts) (T J P F : List ℕ) : Type 0 where
  pub takers : h.concepts * 8 ≤ length T
  pub disjoint : h.classes * 8 ≤ length J
  pub pairs : h.classes * 8 ≤ length P
  pub functional : 8 ≤ length F

-- the tables with what is said; K are the labels
pub record WithSaid (h : Counts) (f : Said) (T J P F K T' J' P' F' K' : List ℕ) : Type 0 where
  pub takers : With T (f.pairs relation.Takers) T'
  pub disjoint : With J (f.pairs relation.Disjoint) J'
  pub pairs : With P (f.pairs relation.Disjoint) P'
  pub functional : With F (f.pairs relation.Functional) F'
  pub labels : LabelsWith h.individuals K f.same K'

-- what one statement adds; the leaves of the concepts are L, the labels K
pub record Added (h : Counts) (L : List ℕ) (x : Axiom) (T J P F K T' J' P' F' K' : List ℕ) : Type 0 where
  pub takers : (B : Book) → Leaves h B h.concepts L → With T (takers_by B x) T'
  pub disjoint : (B : Book) → Leaves h B h.concepts L → With J (disjoint_by B x) J'
  pub pairs : (B : Book) → Leaves h B h.concepts L → With P (disjoint_by B x) P'
  pub functional : With F (functionals_by x) F'
  pub labels : LabelsWith h.individuals K (same_by x) K'

-- before: `from` is where the statements start, and the tables are blank
pub record Begin (s : List ℕ) (h : Counts) (from : ℕ) (S T J P F K : List ℕ) : Type 0 where
  pub limits : Limits h
  pub count : length (statements (book_of s)) ≡ h.statements
  pub left : rest s h from ≡ (book_of s).statements
  pub room : h.statements ≤ length S
  pub rooms : Rooms h T J P F
  pub takers : Blank T
  pub disjoint : Blank J
  pub pairs : Blank P
  pub functional : Blank F
  pub labelled : Labelled h.individuals K
  pub labels : Labels h.individuals K (λ i. i)

-- the tables hold what the statements xs say
pub record Holding (s : List ℕ) (h : Counts) (xs : List Axiom) (S T J P F K : List ℕ) : Type 0 where
  pub starts : Starts s h xs S
  pub takers : Pairs T (from xs (takers_by (book_of s)))
  pub disjoint : Pairs J (from xs (disjoint_by (book_of s)))
  pub pairs : Pairs P (from xs (disjoint_by (book_of s)))
  pub functional : Pairs F (from xs functionals_by)
  pub labels : Labels h.individuals K (labels (from xs same_by) λ i. i)

-- on the way: k statements were entered, and the reader stands before the others
pub record Doing (s : List ℕ) (h : Counts) (S T J P F K : List ℕ) (k at : ℕ) : Type 0 where
  pub done : List Axiom
  pub count : length done ≡ k
  pub holding : Holding s h done S T J P F K
  pub rooms : Rooms h T J P F
  pub labelled : Labelled h.individuals K
  pub left : statements (book_of s) ≡ done ++ bodies (rest s h at)

-- all of them
pub record Entered (s : List ℕ) (h : Counts) (S T J P F K : List ℕ) : Type 0 where
  pub holding : Holding s h (statements (book_of s)) S T J P F K

-- ---- the same, of the tables as one value (src/enter.rt)

abbrev pub RoomsIn : Counts → Marks → Type 0
RoomsIn h x = Rooms h x.takers.now x.disjoint.now x.pairs.now x.functional.now

abbrev pub WithSaidIn : Counts → Said → Marks → Marks → Type 0
WithSaidIn h f x y = WithSaid h f x.takers.now x.disjoint.now x.pairs.now x.functional.now x.labels.now y.takers.now y.disjoint.now y.pairs.now y.functional.now y.labels.now

abbrev pub AddedIn : Counts → List ℕ → Axiom → Marks → Marks → Type 0
AddedIn h L z x y = Added h L z x.takers.now x.disjoint.now x.pairs.now x.functional.now x.labels.now y.takers.now y.disjoint.now y.pairs.now y.functional.now y.labels.now

abbrev pub BeginIn : List ℕ → Counts → ℕ → List ℕ → Marks → Type 0
BeginIn s h from S x = Begin s h from S x.takers.now x.disjoint.now x.pairs.now x.functional.now x.labels.now

abbrev pub EnteredIn : List ℕ → Counts → List ℕ → Marks → Type 0
EnteredIn s h S x = Entered s h S x.takers.now x.disjoint.now x.pairs.now x.functional.now x.labels.now

-- y has the lists of x
pub record Tied (x y : Marks) : Type 0 where
  pub takers : y.takers.ghost_name ≡ x.takers.ghost_name
  pub disjoint : y.disjoint.ghost_name ≡ x.disjoint.ghost_name
  pub pairs : y.pairs.ghost_name ≡ x.pairs.ghost_name
  pub functional : y.functional.ghost_name ≡ x.functional.ghost_name
  pub labels : y.labels.ghost_name ≡ x.labels.ghost_name

-- each of the length that it had
pub record Kept (x y : Marks) : Type 0 where
  pub takers : y.takers.ghost_name ≡ x.takers.ghost_name
  pub disjoint : y.disjoint.ghost_name ≡ x.disjoint.ghost_name
  pub pairs : y.pairs.ghost_name ≡ x.pairs.ghost_name
  pub functional : y.functional.ghost_name ≡ x.functional.ghost_name
  pub labels : y.labels.ghost_name ≡ x.labels.ghost_name
  pub takers_len : length y.takers.now ≡ length x.takers.now
  pub disjoint_len : length y.disjoint.now ≡ length x.disjoint.now
  pub pairs_len : length y.pairs.now ≡ length x.pairs.now
  pub functional_len : length y.functional.now ≡ length x.functional.now
  pub labels_len : length y.labels.now ≡ length x.labels.now
