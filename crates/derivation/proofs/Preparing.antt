-- The tables are made ready, and the answer is the defined one.
use Prim.Native.Nat.{ℕ, ◌+◌, ◌*◌, ◌/◌, ◌%◌, ◌<◌, ◌≤◌}
use native.Mathlib.Omega.{arith}
use mathlib.Core.Path.{◌≡◌, refl, ap, ap₂, sym, subst, ◌∙◌}
use mathlib.Core.Bool.{Bool}
use mathlib.Core.List.{List}
use lib.ListN.{length, get_or, replicate, length-replicate}
use lib.Dec.{eqb}
use Rattle.book.specs.Book.{Book, BookChecked}
use Rattle.book.specs.Reader.{rest}
use Rattle.book.specs.declared.header.Counts.{Counts}
use Rattle.std.specs.Prelude.{Result, Ok, Err, IsErrAnd}
use Rattle.book.specs.declared.refusal.Refusal.{Refusal}
use Rattle.book.specs.Refusal.{number}
use Rattle.book.proofs.Accepted.{accepted_limits, checked_accepted, checked_refused}
use Rattle.rules.specs.Rule.{any}
use Rattle.rules.specs.Brought.{concept, Value, from, atomic_of, atomics, values}
use Rattle.rules.specs.ToldSame.{same_by, labels, label, same}
use Rattle.rules.proofs.Tests.{every_map}
use Rattle.rules.proofs.Inside.{accepted_inside}
use Rattle.rules.proofs.Conclusions.{atomics_in, values_in}
use Rattle.tables.specs.Leaf.{kind_in, Leaves}
use Rattle.tables.specs.Open.{book_of, Open}
use Rattle.tables.specs.Tables.{Blank, Takers, Labelled, Labels, takers_by}
use Rattle.tables.proofs.Open.{whole, open_limits, open_statements}
use Rattle.tables.proofs.Blank.{blank}
use Rattle.tables.proofs.Sides.{class_low}
use Rattle.derivation.specs.Accept.{statements, stands, Judged, stand_rows, faulty_book, judged}
use Rattle.derivation.specs.Tables.{ConceptsOf, LabelsOf, PairsOf}
use Rattle.derivation.specs.Collected.{Slotted, Deep}
use Rattle.derivation.specs.Pairs.{brings_clash, Paired}
use Rattle.derivation.specs.Denied.{Denied}
use Rattle.derivation.specs.Entering.{Begin, Entered}
use Rattle.derivation.specs.Judging.{Ready, Stated, Marked, as_judged}
use Rattle.derivation.proofs.Leaves.{deep_has}
use Rattle.derivation.proofs.PairsOf.{pairs_are}

-- ---- concepts

pub deep_blank : {B : Book} {n : ℕ} {L S D : List ℕ} → Blank D → Deep B n L S 0 D
deep_blank b = record { rows = λ d k l. absurd (omega arith); blank = λ d j l m. b (d * 4096 + j) }

module _ {s O : List ℕ} {h : Counts} (o : Open s h O) where
  abbrev B : Book
  B = book_of s

  individuals_few : B.counts.individuals ≤ 512
  individuals_few = (accepted_limits s B (whole o)).individuals_top

  roles_few : B.counts.roles ≤ 64
  roles_few = (accepted_limits s B (whole o)).roles_top

  classes_few : B.counts.classes ≤ 256
  classes_few = (accepted_limits s B (whole o)).classes_top

  pub concepts_of : {L S D : List ℕ} → Leaves h (book_of s) h.concepts L → Slotted h.concepts L S → Deep (book_of s) h.concepts L S h.concepts D → ConceptsOf (book_of s) h L S D
  concepts_of known slotted deep = record {
    counts = o.counts;
    leaf = known;
    class_low = λ d. every_map _ _ (λ x l. omega (arith, l, (open_limits o).classes_top)) (atomic_of (concept B d)) (class_low o d);
    classes_low = λ d. every_map _ _ (λ x l. omega (arith, l, classes_few)) (atomics (concept B d)) (atomics_in B (accepted_inside s B (whole o)) d);
    values_low = λ d. every_map _ _ (λ (v : Value) l. (omega (arith, l.0, roles_few), omega (arith, l.1, individuals_few))) (values (concept B d)) (values_in B (accepted_inside s B (whole o)) d);
    deep = λ d y l m. deep_has o (open_limits o).concepts_top known slotted deep d y l;
  }

-- ---- all tables

pub ready_of : {s O L T K P S D N : List ℕ} {h : Counts} {y : Bool} → Stated s h O L T K P → Denied (book_of s) (statements (book_of s)) N y → length S ≡ 65793 → 262144 ≤ length D → Slotted h.concepts L S → Deep (book_of s) h.concepts L S h.concepts D → Ready s h T L S D K P N y
ready_of {s} {O} {L} {T} {K} {P} {S} {D} {N} {h} q w e l slotted deep = record {
  offsets = O;
  opened = q.opened;
  prepared = record {
    room = q.starts_room;
    count = open_statements q.opened;
    starts = q.starts;
    concepts = record {
      limits = open_limits q.opened;
      leaves = q.leaves.room;
      leaf_low = λ k m. (q.leaves.leaf k m).within;
      slots = e;
      deep = omega (arith, (open_limits q.opened).concepts_top);
    };
    of = concepts_of q.opened q.leaves slotted deep;
  };
  labels_room = q.labels_room;
  labels = q.labels;
  pairs_room = q.pairs_room;
  pairs = q.pairs;
  denied = w;
}

-- ---- pairs of classes

pub marker_role : {s O L : List ℕ} {h : Counts} → Open s h O → Leaves h (book_of s) h.concepts L → (j : ℕ) → j < h.concepts → kind_in (get_or L j 0) ≡ 5 → get_or L j 0 % 1048576 / 256 < 64
marker_role o known j l e = omega (arith, (known.leaf j l).within.named e, (open_limits o).roles_top)

pub pairs_of : {s O L T U J P Q F : List ℕ} {h : Counts} → Open s h O → Leaves h (book_of s) h.concepts L → Marked s h T J P F
    → Takers s h U (from (statements (book_of s)) (takers_by (book_of s))) → Paired P (λ a b. any h.concepts λ k. brings_clash F J U L h.concepts k a b) Q → PairsOf (book_of s) h Q
pairs_of {s} {O} {L} {T} {U} {J} {P} {Q} {F} {h} o known m takers paired = record { pairs = λ a b i j. pairs_are L U J F o known takers m.disjoint m.functional m.pairs paired a b i j }

-- ---- statements

-- what is at most n is at most the length of n words
pub enough : (n m : ℕ) → m ≤ n → m ≤ length (replicate {A = ℕ} n 0)
enough n m l = subst (λ (k : ℕ). m ≤ k) (sym (length-replicate {0} {A = ℕ} n 0)) l

pub labels_of : (s : List ℕ) {K : List ℕ} {h : Counts} → Labels h.individuals K (labels (from (statements (book_of s)) same_by) λ i. i) → LabelsOf (book_of s) h K
unfolding same label
labels_of s w = record { labels = λ i j l m. ap₂ eqb (w i l) (w j m) }

module _ {s O : List ℕ} {h : Counts} (o : Open s h O) where
  pub begin_of : {at : ℕ} {S P K : List ℕ} → rest s h at ≡ (book_of s).statements → 4096 ≤ length S → 2048 ≤ length P → Blank P → Labelled h.individuals K → Labels h.individuals K (λ i. i)
      → Begin s h at S (replicate 32768 0) (replicate 2048 0) P (replicate 8 0) K
  begin_of left few wide clean labelled own = record {
    limits = open_limits o;
    count = open_statements o;
    left = left;
    room = omega (arith, (open_limits o).statements_top);
    rooms = record {
      takers = enough 32768 (h.concepts * 8) (omega (arith, (open_limits o).concepts_top));
      disjoint = enough 2048 (h.classes * 8) (omega (arith, (open_limits o).classes_top));
      pairs = omega (arith, (open_limits o).classes_top);
      functional = enough 8 8 (omega arith);
    };
    takers = blank 32768;
    disjoint = blank 2048;
    pairs = clean;
    functional = blank 8;
    labelled = labelled;
    labels = own;
  }

  pub marked_of : {S T J P F K : List ℕ} {n : ℕ} → Entered s h S T J P F K → length T ≡ length (replicate {A = ℕ} 32768 0) → length J ≡ length (replicate {A = ℕ} 2048 0) → length P ≡ n → 2048 ≤ n → length F ≡ length (replicate {A = ℕ} 8 0) → Marked s h T J P F
  marked_of e t j p l f = record {
    room = omega (arith, (open_limits o).concepts_top, t, length-replicate {0} {A = ℕ} 32768 0);
    disjoint_room = omega (arith, j, length-replicate {0} {A = ℕ} 2048 0);
    pairs_room = omega arith;
    functional_room = omega (arith, f, length-replicate {0} {A = ℕ} 8 0);
    takers = e.holding.takers;
    disjoint = e.holding.disjoint;
    pairs = e.holding.pairs;
    functional = e.holding.functional;
  }

  pub stated_of : {L S T J P F K Q : List ℕ} {a b n : ℕ} → Leaves h (book_of s) h.concepts L → Entered s h S T J P F K → length S ≡ a → 4096 ≤ a → length K ≡ b → 512 ≤ b → PairsOf (book_of s) h Q → length Q ≡ n → 2048 ≤ n → Stated s h O L S K Q
  stated_of {L} {S} {T} {J} {P} {F} {K} known e i j k l pairs m n = record {
    opened = o;
    leaves = known;
    starts_room = omega (arith, (open_limits o).statements_top);
    starts = e.holding.starts;
    labels_room = omega (arith, (open_limits o).individuals_top);
    labels = labels_of s e.holding.labels;
    pairs_room = omega arith;
    pairs = pairs;
  }

-- ---- the answer

pub judged_of : {s O : List ℕ} (l : List ℕ) {h : Counts} {n : ℕ} → Open s h O → n ≡ stands (book_of s) l → stand_rows n ≡ judged s l
unfolding judged
judged_of l o e = rw (whole o) (ap stand_rows e)

pub judged_refused : {s offsets : List ℕ} (l : List ℕ) {r : Result (Counts × ℕ) Refusal} {e : Refusal} → BookChecked s r offsets → r ≡ Err e → faulty_book (number e) ≡ judged s l
unfolding judged
judged_refused {s} {offsets} l {r} {e} k is = rw (checked_refused s offsets r k e is) refl

-- the refusal that came through a `?`
pub judged_stops : (r : Result ℕ Refusal) (e : Refusal) {x : Judged} → IsErrAnd r (λ y. y ≡ e) → faulty_book (number e) ≡ x → as_judged r ≡ x
judged_stops (Ok n) e p q = absurd p
judged_stops (Err y) e p q = ap (λ (z : Refusal). faulty_book (number z)) p ∙ q

pub checked_few : {s offsets : List ℕ} {r : Result (Counts × ℕ) Refusal} {h : Counts} {start : ℕ} → BookChecked s r offsets → r ≡ Ok (h, start) → h.concepts ≤ 4096
checked_few {s} {offsets} {r} {h} {start} k e =
    let d = checked_accepted s offsets r k h start e in
    subst (λ (g : Counts). g.concepts ≤ 4096) d.2 (accepted_limits s d.0 d.1).concepts_top
