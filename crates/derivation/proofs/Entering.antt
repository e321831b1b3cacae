-- The statements of a book, entered one by one.
use Rattle.std.proofs.Common.{None, Some}
use Prim.Native.Nat.{ℕ, zero, suc, ◌+◌, ◌*◌, ◌<◌, ◌≤◌}
use native.Mathlib.Decide.{ℕ_discrete}
use native.Mathlib.Omega.{arith}
use mathlib.Core.Path.{◌≡◌, refl, ap, sym, ◌∙◌, subst}
use mathlib.Core.List.{List, [], ◌∷◌, ◌++◌, append_assoc}
use lib.ListN.{length, length-append, get_or, set}
use lib.Seq.{get_or-set_same, get_or-set_other}
use Rattle.book.specs.Reader.{rest, turn_at_lem}
use Rattle.book.specs.declared.header.Counts.{Counts}
use Rattle.book.specs.declared.statement.Axiom.{Axiom}
use Rattle.book.specs.declared.statement.Statement.{Statement}
use Rattle.book.specs.Statement.{bodies}
use Rattle.book.proofs.reader.Laws.{rest_next, rest_end}
use Rattle.rules.specs.Fact.{Two}
use Rattle.rules.specs.Brought.{from}
use Rattle.rules.specs.Clash.{disjoint_by}
use Rattle.rules.specs.ToldSame.{same_by, labels}
use Rattle.rules.proofs.Labels.{labels_append}
use Rattle.tables.specs.Leaf.{Leaves}
use Rattle.tables.specs.Open.{book_of}
use Rattle.tables.specs.Tables.{Pairs, With, takers_by, functionals_by}
use Rattle.derivation.specs.Accept.{statements, member}
use Rattle.derivation.specs.Tables.{Starts}
use Rattle.derivation.specs.Entering.{Added, Begin, Holding, Doing, Entered}

append_none : {A : Type 0} (l : List A) → l ++ [] ≡ l
append_none [] = refl
append_none (x ∷ l) = ap (λ m. x ∷ m) (append_none l)

from_last : {A B : Type 0} (f : A → List B) (xs : List A) (x : A) → from (xs ++ (x ∷ [])) f ≡ from xs f ++ f x
from_last f [] x = append_none (f x)
from_last f (y ∷ xs) x = ap (λ l. f y ++ l) (from_last f xs x) ∙ sym (append_assoc (f y) (from xs f) (f x))

member_last : {A : Type 0} (xs : List A) (x : A) → member (xs ++ (x ∷ [])) (length xs) ≡ x ∷ []
member_last [] x = refl
member_last (y ∷ xs) x = member_last xs x

member_before : {A : Type 0} (xs : List A) (x : A) (k : ℕ) → k < length xs → member (xs ++ (x ∷ [])) k ≡ member xs k
member_before [] x k l = absurd (omega arith)
member_before (y ∷ xs) x zero l = refl
member_before (y ∷ xs) x (suc k) l = member_before xs x k (omega arith)

pairs_more : (f : Axiom → List Two) (xs : List Axiom) (x : Axiom) {S T : List ℕ} → Pairs S (from xs f) → With S (f x) T → Pairs T (from (xs ++ (x ∷ [])) f)
pairs_more f xs x {S} {T} p w = subst (λ (l : List Two). Pairs T l) (sym (from_last f xs x)) (w.pairs (from xs f) p)

starts_more : (s : List ℕ) (h : Counts) (xs : List Axiom) (z : Statement) (S : List ℕ) (at next : ℕ) → length xs < length S → Starts s h xs S → turn_at_lem s h at ≡ Some (z, next) → Starts s h (xs ++ (z.body ∷ [])) (set S (length xs) at)
starts_more s h xs z S at next room w e k l = go (ℕ_discrete k (length xs))
  where
    go : Dec (k ≡ length xs) → (y : Statement) × (n : ℕ) × (turn_at_lem s h (get_or (set S (length xs) at) k 0) ≡ Some (y, n)) × (member (xs ++ (z.body ∷ [])) k ≡ y.body ∷ [])
    go (yes q) = (z, next, ap (turn_at_lem s h) (ap (λ (i : ℕ). get_or (set S (length xs) at) i 0) q ∙ get_or-set_same S (length xs) at 0 room) ∙ e, ap (member (xs ++ (z.body ∷ []))) q ∙ member_last xs z.body)
    go (no q) =
        let m : k < length xs = omega (arith, l, length-append xs (z.body ∷ [])) in
        let v = w k m in
        (v.0, v.1, ap (turn_at_lem s h) (get_or-set_other S (length xs) k at 0 q) ∙ v.2, member_before xs z.body k m ∙ v.3)

-- nothing is entered yet
pub doing_begin : {s : List ℕ} {h : Counts} {from : ℕ} {S T J P F K : List ℕ} → Begin s h from S T J P F K → Doing s h S T J P F K 0 from
unfolding labels
doing_begin b = record {
  done = [];
  count = refl;
  holding = record {
    starts = λ k l. absurd (omega arith);
    takers = λ x y l. b.takers (x * 512 + y);
    disjoint = λ x y l. b.disjoint (x * 512 + y);
    pairs = λ x y l. b.pairs (x * 512 + y);
    functional = λ x y l. b.functional (x * 512 + y);
    labels = b.labels;
  };
  rooms = b.rooms;
  labelled = b.labelled;
  left = ap bodies (sym b.left);
}

-- one statement more
pub doing_more : {s : List ℕ} {h : Counts} {L S T J P F K T' J' P' F' K' : List ℕ} {k at next : ℕ} (z : Statement) → Leaves h (book_of s) h.concepts L → k < length S → Doing s h S T J P F K k at → turn_at_lem s h at ≡ Some (z, next)
    → Added h L z.body T J P F K T' J' P' F' K' → Doing s h (set S k at) T' J' P' F' K' (k + 1) next
doing_more {s} {h} {L} {S} {T} {J} {P} {F} {K} {T'} {J'} {P'} {F'} {K'} {k} {at} {next} z leaf room d e a = let x = z.body in record {
  done = d.done ++ (x ∷ []);
  count = omega (arith, d.count, length-append d.done (x ∷ []));
  holding = record {
    starts = subst (λ (i : ℕ). Starts s h (d.done ++ (x ∷ [])) (set S i at)) d.count (starts_more s h d.done z S at next (omega (arith, d.count)) d.holding.starts e);
    takers = pairs_more (takers_by (book_of s)) d.done x d.holding.takers (a.takers (book_of s) leaf);
    disjoint = pairs_more (disjoint_by (book_of s)) d.done x d.holding.disjoint (a.disjoint (book_of s) leaf);
    pairs = pairs_more (disjoint_by (book_of s)) d.done x d.holding.pairs (a.pairs (book_of s) leaf);
    functional = pairs_more functionals_by d.done x d.holding.functional a.functional;
    labels = λ i l. a.labels.labels (labels (from d.done same_by) (λ j. j)) d.holding.labels i l ∙ ap (λ (g : ℕ → ℕ). g i) (sym (ap (λ (l : List Two). labels l (λ j. j)) (from_last same_by d.done x) ∙ labels_append (from d.done same_by) (same_by x) (λ j. j)));
  };
  rooms = record {
    takers = omega (arith, d.rooms.takers, (a.takers (book_of s) leaf).len);
    disjoint = omega (arith, d.rooms.disjoint, (a.disjoint (book_of s) leaf).len);
    pairs = omega (arith, d.rooms.pairs, (a.pairs (book_of s) leaf).len);
    functional = omega (arith, d.rooms.functional, a.functional.len);
  };
  labelled = a.labels.labelled;
  left = d.left ∙ (ap (λ (l : List Statement). d.done ++ bodies l) (rest_next s h at z next e) ∙ sym (append_assoc d.done (x ∷ []) (bodies (rest s h next))));
}

module _ {s : List ℕ} {h : Counts} {S T J P F K : List ℕ} {k at : ℕ} (d : Doing s h S T J P F K k at) where
  all_done : bodies (rest s h at) ≡ [] → Entered s h S T J P F K
  all_done e = record { holding = subst (λ (xs : List Axiom). Holding s h xs S T J P F K) (sym (d.left ∙ (ap (λ (l : List Axiom). d.done ++ l) e ∙ append_none d.done))) d.holding }

  -- the reader has come to its end
  pub doing_end : turn_at_lem s h at ≡ None → Entered s h S T J P F K
  doing_end e = all_done (ap bodies (rest_end s h at e))

  -- or all statements were entered
  pub doing_all : length (statements (book_of s)) ≡ h.statements → h.statements ≤ k → Entered s h S T J P F K
  doing_all c l = all_done (no_more (bodies (rest s h at)) (omega (arith, ap length d.left, length-append d.done (bodies (rest s h at)), d.count, c, l)))
    where
      no_more : (l : List Axiom) → length l ≡ 0 → l ≡ []
      no_more [] e = refl
      no_more (x ∷ l) e = absurd (omega arith)
