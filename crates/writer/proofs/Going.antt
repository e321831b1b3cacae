-- Going over the statements: one more at a time, from the first to the end.
use Prim.Native.Nat.{ℕ, zero, suc, ◌+◌, ◌-◌, ◌≤◌, ◌<◌}
use native.Mathlib.Omega.{arith}
use native.Mathlib.Decide.{ℕ_discrete}
use mathlib.Core.Path.{◌≡◌, refl, sym, ap, ap₂, ◌∙◌, subst}
use mathlib.Core.Bool.{Bool, true, false, not}
use mathlib.Core.List.{List, [], ◌∷◌, ◌++◌, append_assoc, append-nil}
use lib.ListN.{length, get_or, length-append, get_or-append}
use lib.Seq.{get_or_at}
use Rattle.book.specs.declared.header.Counts.{Counts}
use Rattle.book.specs.declared.statement.Statement.{Statement}
use Rattle.std.specs.Prelude.{Some, None}
use Rattle.std.proofs.lemmas.Option.{some_pair_parts}
use Rattle.book.specs.Read.{Read, value, refusal}
use Rattle.book.specs.Header.{Limits}
use Rattle.book.specs.Statement.{statement}
use Rattle.book.specs.Reader.{turn_of, turn_at_lem, rest}
use Rattle.book.specs.Within.{Every}
use Rattle.book.specs.Bytes.{Bytes, repeats}
use Rattle.book.proofs.Bytes.{repeats_equal, repeats_self}
use Rattle.book.proofs.reader.Laws.{turn_goes, rest_next, rest_end}
use Rattle.rules.specs.Lists.{only}
use Rattle.rules.proofs.Tests.{false_true, not-true, some_none}
use Rattle.rules.proofs.Members.{none_some}
use Rattle.writer.specs.Kept.{repeated, kept}
use Rattle.writer.proofs.Repeats.{every_kept, kept_every, kept_length, kept_snoc}
use Rattle.writer.specs.Tree.{Match, Tree, Kept}
use Rattle.writer.specs.Gathering.{spare, ReadsAt, Records, Gathering}
use Rattle.writer.proofs.Matching.{alike_equal, equal_alike}

turned : (r : Read Statement) (x : Statement) (next : ℕ) → turn_of r ≡ Some (x, next) → r ≡ value x next
turned (value y m) x next t = let q = some_pair_parts y x m next t in ap₂ value q.0 q.1
turned (refusal n) x next t = absurd cc

turn_read : (s : List ℕ) (h : Counts) (at : ℕ) (x : Statement) (next : ℕ) → turn_at_lem s h at ≡ Some (x, next) → statement h s at ≡ value x next
unfolding turn_at_lem
turn_read s h at x next t = turned (statement h s at) x next t

every_at : (P : Statement → Type 0) (l : List Statement) (k : ℕ) → Every P l → k < length l → P (get_or l k spare)
every_at P [] k h m = absurd (omega arith)
every_at P (x ∷ l) zero h m = h.0
every_at P (x ∷ l) (suc k) h m = every_at P l k h.1 (omega arith)

at_every : (P : Statement → Type 0) (l : List Statement) → ((k : ℕ) → k < length l → P (get_or l k spare)) → Every P l
at_every P [] h = tt
at_every P (x ∷ l) h = (h 0 (omega arith), at_every P l (λ k m. h (suc k) (omega arith)))

true_of : (b : Bool) → (b ≡ false → ⊥) → b ≡ true
true_of true d = refl
true_of false d = absurd (d refl)

pub gathering_begin : (s : List ℕ) (h : Counts) (start : ℕ) (child place size : List ℕ) → Tree s 0 child place size → Gathering s h start 0 child place size start
unfolding kept
gathering_begin s h start child place size t = record { tree = t; passed = []; split = refl; records = record { counted = refl; reads = λ k l. absurd (omega arith) } }

pub gathering_end : (s : List ℕ) (h : Counts) (start count : ℕ) (child place size : List ℕ) (here : ℕ) → Gathering s h start count child place size here → turn_at_lem s h here ≡ None → Records s h (kept (rest s h start)) count place size
gathering_end s h start count child place size here g e =
    let q : rest s h start ≡ g.passed = g.split ∙ (ap (λ (l : List Statement). g.passed ++ l) (rest_end s h here e) ∙ append-nil g.passed) in
    subst (λ (l : List Statement). Records s h (kept l) count place size) (sym q) g.records

-- fewer have been kept than there are
pub gathering_room : (s : List ℕ) (h : Counts) (start count : ℕ) (child place size : List ℕ) (here : ℕ) (x : Statement) (next : ℕ) → Gathering s h start count child place size here → turn_at_lem s h here ≡ Some (x, next) → count < length (rest s h start)
gathering_room s h start count child place size here x next g t =
    let q : length (rest s h start) ≡ length g.passed + length (rest s h here) = ap length g.split ∙ length-append g.passed (rest s h here) in
    let r : length (rest s h here) ≡ suc (length (rest s h next)) = ap length (rest_next s h here x next t) in
    omega (arith, kept_length g.passed, g.records.counted)

module _ (s : List ℕ) (bytes : Bytes s) (h : Counts) (lim : Limits h) (start count : ℕ) (child place size : List ℕ) (here : ℕ) (x : Statement) (next : ℕ) (g : Gathering s h start count child place size here) (turn : turn_at_lem s h here ≡ Some (x, next)) where
  abbrev n : ℕ
  n = next - here

  goes : (here + 3 ≤ next) × (next ≤ length s)
  goes = turn_goes s h here x next turn

  read_x : statement h s here ≡ value x (here + n)
  read_x = turn_read s h here x next turn ∙ ap (value x) (omega (arith, goes.0))

  abbrev ks : List Statement
  ks = kept g.passed

  abbrev test : Statement → Bool
  test z = repeats z x

  -- it was there
  old_some : (k : ℕ) → k < count → Match s place size k here n → repeated g.passed x ≡ true
  old_some k l m =
      let e : get_or ks k spare ≡ x = alike_equal s bytes h lim (get_or place k 0) here (get_or size k 0) n (get_or ks k spare) x (g.records.reads k l) read_x (omega (arith, goes.0, goes.1)) m.0 m.1 in
      true_of _ (λ f.
      let all : Every (λ z. test z ≡ false) ks = every_kept (λ z. test z ≡ false) g.passed (some_none test g.passed f) in
      let one : repeats (get_or ks k spare) x ≡ false = every_at (λ z. test z ≡ false) ks k all (omega (arith, g.records.counted)) in
      let two : repeats x x ≡ false = subst (λ (z : Statement). repeats z x ≡ false) e one in
      false_true (sym two ∙ repeats_self x))

  -- it was not
  new_none : ((k : ℕ) → k < count → Match s place size k here n → ⊥) → repeated g.passed x ≡ false
  new_none none =
      none_some test g.passed
      (kept_every (λ z. test z ≡ false) g.passed
      (at_every (λ z. test z ≡ false) ks (λ k l. not-true _ (λ e. none k (omega (arith, g.records.counted)) (equal_alike s bytes h lim (get_or place k 0) here (get_or size k 0) n (get_or ks k spare) x (g.records.reads k (omega (arith, g.records.counted))) read_x (repeats_equal _ x e))))))

  split_on : rest s h start ≡ (g.passed ++ (x ∷ [])) ++ rest s h next
  split_on = g.split ∙ (ap (λ (l : List Statement). g.passed ++ l) (rest_next s h here x next turn) ∙ sym (append_assoc g.passed (x ∷ []) (rest s h next)))

  module _ (r : ℕ) (child' place' size' : List ℕ) (t : Tree s r child' place' size') (k' : Kept s count place size here n r place' size') where
    moved : (ls : List Statement) (k : ℕ) → k < count → ReadsAt s h ls place size k → ReadsAt s h ls place' size' k
    moved ls k l a = let q = k'.same k l in rw (q.0, q.1) a

    records_on : Records s h (kept (g.passed ++ (x ∷ []))) r place' size'
    records_on = go (ℕ_discrete r count)
      where
        go : Dec (r ≡ count) → Records s h (kept (g.passed ++ (x ∷ []))) r place' size'
        go (yes e) =
            let m = k'.there e in
            let q : kept (g.passed ++ (x ∷ [])) ≡ ks = kept_snoc g.passed x ∙ (ap (λ (b : Bool). ks ++ only (not b) x) (old_some m.0 m.1 m.2) ∙ append-nil ks) in
            rw q (record { counted = g.records.counted ∙ sym e; reads = λ k l. moved ks k (omega arith) (g.records.reads k (omega arith)) })
        go (no d) =
            let m = k'.new d in
            let q : kept (g.passed ++ (x ∷ [])) ≡ ks ++ (x ∷ []) = kept_snoc g.passed x ∙ ap (λ (b : Bool). ks ++ only (not b) x) (new_none m.3) in
            rw q (record { counted = length-append ks (x ∷ []) ∙ omega (arith, g.records.counted, m.0); reads = λ k l. last m.1 m.2 k (omega (arith, m.0)) (ℕ_discrete k count) })
          where
            last : get_or place' count 0 ≡ here → get_or size' count 0 ≡ n → (k : ℕ) → k < count + 1 → Dec (k ≡ count) → ReadsAt s h (ks ++ (x ∷ [])) place' size' k
            last p q k l (yes e) = rw (e, p, q, get_or_at ks x [] spare count g.records.counted) read_x
            last p q k l (no e) =
                let low : k < count = omega arith in
                rw (get_or-append ks (x ∷ []) spare k (omega (arith, g.records.counted))) (moved ks k low (g.records.reads k low))

    pub gathering_over : Gathering s h start r child' place' size' next
    gathering_over = record { tree = t; passed = g.passed ++ (x ∷ []); split = split_on; records = records_on }
