-- The checker's steps: its tables, and what it tests of a row.
use Rattle.std.specs.Prelude.{ℕ, ◌*◌, ◌≤◌, ◌≡◌, Bool, ◌&&◌, ◌||◌, List, length, eqb, ltb, Result, Ok, Err}
use Rattle.book.specs.Book.{Book}
use Rattle.book.specs.declared.header.Counts.{Counts}
use Rattle.book.specs.declared.refusal.Refusal.{Refusal}
use Rattle.book.specs.Refusal.{number}
use Rattle.rules.specs.Rule.{some}
use Rattle.rules.specs.Brought.{from}
use Rattle.rules.specs.Clash.{disjoint_by}
use Rattle.tables.specs.Leaf.{Leaves}
use Rattle.tables.specs.Tables.{Pairs, takers_by, functionals_by}
use Rattle.tables.specs.Open.{book_of, Open}
use Rattle.derivation.specs.declared.row.Row.{Row}
use Rattle.derivation.specs.declared.row.Premises.{Premises}
use Rattle.derivation.specs.Rows.{none}
use Rattle.derivation.specs.Accept.{statements, rule_number_lem, member, Judged, stand_rows, faulty_book}
use Rattle.derivation.specs.Fits.{fits, share_fits_lem, deny_fits, clash_fits_lem, one_of_three, any_order, any_two}
use Rattle.derivation.specs.Denied.{Denied}
use Rattle.derivation.specs.Tables.{Concepts, ConceptsOf, LabelsOf, PairsOf, Starts}
use Rattle.derivation.specs.declared.denied.Denials.{Denials}
use Rattle.derivation.specs.declared.check.Tables.{Tables}
use Rattle.derivation.specs.declared.check.Said.{Said}

-- the tables of concepts and of statements, ready for a row
pub record Prepared (s : List ℕ) (h : Counts) (T L S D : List ℕ) : Type 0 where
  pub room : h.statements ≤ length T
  pub count : length (statements (book_of s)) ≡ h.statements
  pub starts : Starts s h (statements (book_of s)) T
  pub concepts : Concepts h L S D
  pub of : ConceptsOf (book_of s) h L S D

-- all tables
pub record Ready (s : List ℕ) (h : Counts) (T L S D K P N : List ℕ) (y : Bool) : Type 0 where
  pub offsets : List ℕ
  pub opened : Open s h offsets
  pub prepared : Prepared s h T L S D
  pub labels_room : h.individuals ≤ length K
  pub labels : LabelsOf (book_of s) h K
  pub pairs_room : 2048 ≤ length P
  pub pairs : PairsOf (book_of s) h P
  pub denied : Denied (book_of s) (statements (book_of s)) N y

-- before the tables of leaves at any depth are filled
pub record Stated (s : List ℕ) (h : Counts) (O L T K P : List ℕ) : Type 0 where
  pub opened : Open s h O
  pub leaves : Leaves h (book_of s) h.concepts L
  pub starts_room : h.statements ≤ length T
  pub starts : Starts s h (statements (book_of s)) T
  pub labels_room : h.individuals ≤ length K
  pub labels : LabelsOf (book_of s) h K
  pub pairs_room : 2048 ≤ length P
  pub pairs : PairsOf (book_of s) h P

-- the same, of one value (src/check.rt, src/denied.rt)
abbrev pub DeniedIn : Book → Denials → Type 0
DeniedIn B x = Denied B (statements B) x.denied.now x.known

abbrev pub PreparedIn : List ℕ → Counts → Tables → Type 0
PreparedIn s h x = Prepared s h x.starts.now x.concepts.leaves.now x.concepts.slots.now x.concepts.deep.now

abbrev pub ReadyIn : List ℕ → Counts → Tables → Type 0
ReadyIn s h x = Ready s h x.starts.now x.concepts.leaves.now x.concepts.slots.now x.concepts.deep.now x.labels.now x.pairs.now x.denials.denied.now x.denials.known

abbrev pub StatedIn : List ℕ → Counts → List ℕ → Said → Type 0
StatedIn s h O x = Stated s h O x.leaves.now x.starts.now x.labels.now x.pairs.now

-- before the pairs of classes that bring markers are found: what takes a concept T, disjoint pairs J and P, functional fields F
pub record Marked (s : List ℕ) (h : Counts) (T J P F : List ℕ) : Type 0 where
  pub room : h.concepts * 8 ≤ length T
  pub disjoint_room : 2048 ≤ length J
  pub pairs_room : 2048 ≤ length P
  pub functional_room : 8 ≤ length F
  pub takers : Pairs T (from (statements (book_of s)) (takers_by (book_of s)))
  pub disjoint : Pairs J (from (statements (book_of s)) (disjoint_by (book_of s)))
  pub pairs : Pairs P (from (statements (book_of s)) (disjoint_by (book_of s)))
  pub functional : Pairs F (from (statements (book_of s)) functionals_by)

-- what an answer says
abbrev pub as_judged : Result ℕ Refusal → Judged
as_judged (Ok n) = stand_rows n
as_judged (Err e) = faulty_book (number e)

-- rules 1 to 5 and 7, rule 6 and rule 8, from the facts p
unfoldable pub statement_fits : Book → Row → ℕ → Premises → Bool
statement_fits B r f p = some (member (statements B) r.statement) λ x. eqb (rule_number_lem x) r.rule && any_order p.one p.two p.three (fits B x f)

unfoldable pub sharing_fits : Counts → Book → Row → ℕ → Premises → Bool
sharing_fits h B r f p = eqb r.rule 6 && (eqb r.statement none && any_order p.one p.two p.three (share_fits_lem h B f))

-- a statement denies one of the facts p
unfoldable pub denial_fits : Book → Premises → Bool
denial_fits B p = some (statements B) λ x. one_of_three p.one p.two p.three (deny_fits B x)

unfoldable pub clash_fits_row : Counts → Book → Row → Premises → Bool
clash_fits_row h B r p = eqb r.rule 8 && ((eqb r.statement none || ltb r.statement h.statements) && (any_two p.one p.two p.three (clash_fits_lem h B) || denial_fits B p))
