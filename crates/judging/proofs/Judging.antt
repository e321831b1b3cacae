-- The laws of src/concept.rt: a record by its start and its parts, and the memo.
use Prim.Native.Nat.{ℕ, ◌+◌, ◌-◌, ◌*◌, ◌<◌, ◌≤◌}
use mathlib.Core.Path.{◌≡◌, refl, ap, sym, ◌∙◌, subst}
use mathlib.Core.Bool.{Bool, true, false, ◌&&◌, ◌||◌}
use mathlib.Core.List.{List}
use native.Mathlib.Decide.{ℕ_discrete}
use native.Mathlib.Omega.{arith}
use lib.ListN.{length}
use borrow.Author.Tests.{eq-eqb, ne_eqb}
use Rattle.book.specs.Field.{number_at_lem}
use Rattle.book.specs.Tree.{Concept, nth, part_trees, tree_of}
use Rattle.book.specs.Within.{ConceptWithin}
use Rattle.book.specs.declared.header.Counts.{Counts}
use Rattle.book.specs.declared.concept.ConceptExpr.{ConceptExpr}
use Rattle.book.specs.declared.concept.ConceptExpr.TheVariants.{Top, Bot, Atomic, Nominal, SelfRestriction, Not, And, Or, Some, All, Min, Max}
use Rattle.book.proofs.Accepted.{parts_more, parts_none}
use Rattle.rows.specs.Row.{at, has, Put}
use Rattle.rules.specs.Fact.{edge}
use Rattle.rules.specs.Rule.{Set, any}
use Rattle.rules.specs.Brought.{concept}
use Rattle.rules.proofs.Tests.{any_same}
use Rattle.tables.specs.Open.{book_of}
use Rattle.tables.proofs.Open.{RecordOf}
use Rattle.member.specs.Shown.{shown, shown_all, shown_some}
use Rattle.judging.specs.Row.{Holds, Copied}
use Rattle.judging.specs.Way.{way_of, count_of_lem, part_of, PartsInside, WayIn, StartIn, RoleIn, mix, start_of, given, rest}
use Rattle.judging.specs.Memo.{facts_in, class_in_lem, shown_by, Started, Gave, Memo, Further, Judged, Passed, Mixed}
use Rattle.judging.specs.declared.way.Way.{Way}
use Rattle.judging.specs.declared.way.Way.TheVariants.{Leaf, Inner, Every, Any}
use Rattle.judging.specs.declared.way.Left.{Left}

-- ---- tests

or-false : (a : Bool) → (a || false) ≡ a
or-false true = refl
or-false false = refl

and_true : (a : Bool) → (a && true) ≡ a
and_true true = refl
and_true false = refl

and_twice : (a b c : Bool) → ((a && b) && c) ≡ (a && (b && c))
and_twice true b c = refl
and_twice false b c = refl

or_twice : (a b c : Bool) → ((a || b) || c) ≡ (a || (b || c))
or_twice true b c = refl
or_twice false b c = refl

-- ---- ways

pub way_inside : (s : List ℕ) (h : Counts) (k : ℕ) (w : Way) → WayIn s h k w → PartsInside s w
way_inside s h k Leaf v = tt
way_inside s h k (Inner r c) v = tt
way_inside s h k (Every p) v = v.inside
way_inside s h k (Any p) v = v.inside

pub way_role : (s : List ℕ) (h : Counts) (k : ℕ) (w : Way) → WayIn s h k w → RoleIn h w
way_role s h k Leaf v = tt
way_role s h k (Inner r c) v = v.0
way_role s h k (Every p) v = tt
way_role s h k (Any p) v = tt

pub way_lower : (s : List ℕ) (h : Counts) (k : ℕ) (w : Way) (i : ℕ) → WayIn s h k w → i < count_of_lem w → part_of s w i < k
way_lower s h k Leaf i v l = absurd (omega arith)
way_lower s h k (Inner r c) i v l = v.1
way_lower s h k (Every p) i v l = v.lower i l
way_lower s h k (Any p) i v l = v.lower i l

pub record_way : (s : List ℕ) (h : Counts) (k : ℕ) (x : ConceptExpr) → ConceptWithin s h k x → WayIn s h k (way_of x)
record_way s h k Top v = tt
record_way s h k Bot v = tt
record_way s h k (Atomic c) v = tt
record_way s h k (Nominal i) v = tt
record_way s h k (SelfRestriction r) v = tt
record_way s h k (Not c) v = tt
record_way s h k (And p) v = v
record_way s h k (Or p) v = v
record_way s h k (Some r c) v = v
record_way s h k (All r c) v = tt
record_way s h k (Min m r c) v = tt
record_way s h k (Max m r c) v = tt

pub record_start_lem : (s : List ℕ) (h : Counts) (k : ℕ) (x : ConceptExpr) → ConceptWithin s h k x → StartIn h x
record_start_lem s h k Top v = tt
record_start_lem s h k Bot v = tt
record_start_lem s h k (Atomic c) v = v
record_start_lem s h k (Nominal i) v = v
record_start_lem s h k (SelfRestriction r) v = v
record_start_lem s h k (Not c) v = tt
record_start_lem s h k (And p) v = tt
record_start_lem s h k (Or p) v = tt
record_start_lem s h k (Some r c) v = tt
record_start_lem s h k (All r c) v = tt
record_start_lem s h k (Min m r c) v = tt
record_start_lem s h k (Max m r c) v = tt

-- ---- a record is its start with its parts mixed in

module _ (n : ℕ) (S : Set) (C : ℕ → ℕ → Bool) (s : List ℕ) (ts : List Concept) where
  -- nothing is left
  rest_end : (w : Way) (i x : ℕ) (a : Bool) → i ≡ count_of_lem w → mix w a (rest n S C s ts w i x) ≡ a
  rest_end Leaf i x a e = or-false a
  rest_end (Inner r c) i x a e = rw (ne_eqb i 0 (λ q. omega arith)) (or-false a)
  rest_end (Every p) i x a e = rw (parts_none s ts p.at p.len i (omega arith)) (and_true a)
  rest_end (Any p) i x a e = rw (parts_none s ts p.at p.len i (omega arith)) (or-false a)

  -- one part, then those after it
  rest_next : (w : Way) (i x : ℕ) (a : Bool) (row : ℕ → Bool) → x < n → i < count_of_lem w → ((y : ℕ) → y < n → row y ≡ shown n S C (nth ts (part_of s w i)) y)
      → mix w (mix w a (given n S w row x)) (rest n S C s ts w (i + 1) x) ≡ mix w a (rest n S C s ts w i x)
  rest_next Leaf i x a row m l h = absurd (omega arith)
  rest_next (Inner r c) i x a row m l h =
      let z : i ≡ 0 = omega arith in
      let same : any n (λ y. S (edge r x y) && row y) ≡ any n (λ y. S (edge r x y) && shown n S C (nth ts c) y) = any_same n _ _ (λ y q. ap (λ (b : Bool). S (edge r x y) && b) (h y q)) in
      rw (eq-eqb i 0 z, ne_eqb (i + 1) 0 (λ q. omega arith), same) (or-false (a || any n (λ y. S (edge r x y) && shown n S C (nth ts c) y)))
  rest_next (Every p) i x a row m l h =
      rw (parts_more s ts p.at p.len i l, h x m) (and_twice a (shown n S C (nth ts (number_at_lem s (p.at + 2 * i))) x) (shown_all n S C (part_trees s ts (p.at + 2 * (i + 1)) (p.len - (i + 1))) x))
  rest_next (Any p) i x a row m l h =
      rw (parts_more s ts p.at p.len i l, h x m) (or_twice a (shown n S C (nth ts (number_at_lem s (p.at + 2 * i))) x) (shown_some n S C (part_trees s ts (p.at + 2 * (i + 1)) (p.len - (i + 1))) x))

  -- all of them
  whole : (x : ConceptExpr) (y : ℕ) → mix (way_of x) (start_of n S C x y) (rest n S C s ts (way_of x) 0 y) ≡ shown n S C (tree_of s ts x) y
  whole Top y = refl
  whole Bot y = refl
  whole (Atomic c) y = or-false (start_of n S C (Atomic c) y)
  whole (Nominal b) y = or-false (start_of n S C (Nominal b) y)
  whole (SelfRestriction r) y = or-false (start_of n S C (SelfRestriction r) y)
  whole (Not c) y = refl
  whole (And p) y = let e : p.at + 2 * 0 ≡ p.at = omega arith in let f : p.len - 0 ≡ p.len = omega arith in rw (e, f) refl
  whole (Or p) y = let e : p.at + 2 * 0 ≡ p.at = omega arith in let f : p.len - 0 ≡ p.len = omega arith in rw (e, f) refl
  whole (Some r c) y = refl
  whole (All r c) y = refl
  whole (Min m r c) y = refl
  whole (Max m r c) y = refl

-- ---- the memo

module _ (s : List ℕ) (h : Counts) (t g : List ℕ) where
  abbrev n : ℕ
  n = h.individuals

  abbrev S : Set
  S = facts_in h t

  abbrev C : ℕ → ℕ → Bool
  C = class_in_lem h.individuals g

  abbrev ts : List Concept
  ts = (book_of s).concepts

  -- nothing is done
  pub memo_none : (rows done : List ℕ) → h.concepts * 8 ≤ length rows → 64 ≤ length done → ((k : ℕ) → at done k ≡ false) → Memo s h t g rows done
  memo_none rows done l m f = record { rows_room = l; done_room = m; right = λ k o e. absurd (let z : false ≡ true = sym (f k) ∙ e in let q : ◌≡◌ {A = ℕ} 0 1 = cc in omega arith) }

  pub further_none : (rows done : List ℕ) → Memo s h t g rows done → Further s h t g rows done rows done
  further_none rows done m = record { rows_len = refl; done_len = refl; memo = m; keeps = λ j e. e }

  pub further_then : {rows done rows' done' rows'' done'' : List ℕ} → Further s h t g rows done rows' done' → Further s h t g rows' done' rows'' done'' → Further s h t g rows done rows'' done''
  further_then a b = record { rows_len = b.rows_len ∙ a.rows_len; done_len = b.done_len ∙ a.done_len; memo = b.memo; keeps = λ j e. b.keeps j (a.keeps j e) }

  pub judged_before : {rows done : List ℕ} {b : Bool} (k : ℕ) → Memo s h t g rows done → b ≡ at done k → b ≡ true → Judged s h t g k rows done rows done
  judged_before {rows} {done} k m e f = record { further = further_none rows done m; there = sym e ∙ f }

  -- a part that is done is mixed in
  pub passed_more : {rows done : List ℕ} (acc c d : List ℕ) (v : Left) (r p : ℕ) → Memo s h t g rows done → p < h.concepts → at done p ≡ true → r < count_of_lem v.way → p ≡ part_of s v.way r
      → Gave h t v.way (has rows p) c d → Passed s h t g v r acc c → Passed s h t g v (r + 1) acc d
  passed_more {rows} {done} acc c d v r p m own there l e gave before x q =
      ap (λ (b : Bool). mix v.way b (rest n S C s ts v.way (r + 1) x)) (gave x q)
      ∙ (rest_next n S C s ts v.way r x (has c 0 x) (has rows p) q l (λ y j. m.right p own there y j ∙ ap (λ (k : ℕ). shown n S C (nth ts k) y) e)
      ∙ before x q)

  -- parts: none left
  pub mixed_end : {rows done : List ℕ} {acc acc' : List ℕ} (v : Left) (r : ℕ) → Memo s h t g rows done → length acc' ≡ length acc → Passed s h t g v r acc acc' → r ≡ count_of_lem v.way → Mixed s h t g v rows done acc rows done acc'
  mixed_end {rows} {done} {acc} {acc'} v r m k before e = record {
    further = further_none rows done m;
    acc_len = k;
    row = λ x l. sym (rest_end n S C s ts v.way r x (has acc' 0 x) e) ∙ before x l;
  }

  -- and one that was not done
  pub mixed_next : {rows done acc : List ℕ} (c : List ℕ) {rows' done' acc' rows'' done'' acc'' : List ℕ} (v u : Left) (r p : ℕ) → Passed s h t g v r acc c → p < h.concepts → Judged s h t g p rows done rows' done' → Gave h t v.way (has rows' p) c acc'
      → r < count_of_lem v.way → p ≡ part_of s v.way r → length acc' ≡ length c → length c ≡ length acc → u.way ≡ v.way → u.next ≡ r + 1 → Mixed s h t g u rows' done' acc' rows'' done'' acc'' → Mixed s h t g v rows done acc rows'' done'' acc''
  mixed_next {rows} {done} {acc} c {rows'} {done'} {acc'} v u r p before own judged gave l e k j same more m = record {
    further = further_then judged.further m.further;
    acc_len = m.acc_len ∙ (k ∙ j);
    row = λ x q. m.row x q ∙ rw (same, more) (passed_more acc c acc' v r p judged.further.memo own judged.there l e gave before x q);
  }

  -- concept: its row is worked out
  pub judged_new : {rows done acc rows' done' acc' rows'' done'' : List ℕ} {x : ConceptExpr} (v : Left) (k : ℕ) → n ≤ 512 → RecordOf s h k x → v.way ≡ way_of x → v.next ≡ 0
      → Started h t g x acc → Mixed s h t g v rows done acc rows' done' acc' → Copied rows' k acc' rows'' → Put done' k done'' → Judged s h t g k rows done rows'' done''
  judged_new {rows} {done} {acc} {rows'} {done'} {acc'} {rows''} {done''} {x} v k few e f z st m c d = record {
    further = record {
      rows_len = c.len ∙ m.further.rows_len;
      done_len = d.len ∙ m.further.done_len;
      memo = record {
        rows_room = subst (λ (j : ℕ). h.concepts * 8 ≤ j) (sym c.len) m.further.memo.rows_room;
        done_room = subst (λ (j : ℕ). 64 ≤ j) (sym d.len) m.further.memo.done_room;
        right = λ j l q. right j l q (ℕ_discrete j k);
      };
      keeps = λ j q. keeps j q (ℕ_discrete j k);
    };
    there = d.there;
  }
    where
      keeps : (j : ℕ) → at done j ≡ true → Dec (j ≡ k) → at done'' j ≡ true
      keeps j q (yes r) = subst (λ (y : ℕ). at done'' y ≡ true) (sym r) d.there
      keeps j q (no r) = d.other j r ∙ m.further.keeps j q

      new : Holds rows'' k h.individuals (shown_by h t g (concept (book_of s) k))
      new y l =
          c.row y (omega arith) ∙ (m.row y l ∙ rw (f, z, e.tree)
          (ap (λ (b : Bool). mix (way_of x) b (rest n S C s ts (way_of x) 0 y)) (st y l) ∙ whole n S C s ts x y))

      right : (j : ℕ) → j < h.concepts → at done'' j ≡ true → Dec (j ≡ k) → Holds rows'' j h.individuals (shown_by h t g (concept (book_of s) j))
      right j l q (yes r) = subst (λ (y : ℕ). Holds rows'' y h.individuals (shown_by h t g (concept (book_of s) y))) (sym r) new
      right j l q (no r) = λ y v. c.other (j * 512 + y) (λ u. r (omega arith)) ∙ m.further.memo.right j l (sym (d.other j r) ∙ q) y v

  -- a row that is done is read
  pub shown_read : {rows done rows' done' : List ℕ} {b : Bool} (k i : ℕ) → k < h.concepts → i < h.individuals → Judged s h t g k rows done rows' done' → b ≡ has rows' k i → b ≡ shown_by h t g (concept (book_of s) k) i
  shown_read k i own l j e = e ∙ j.further.memo.right k own j.there i l
