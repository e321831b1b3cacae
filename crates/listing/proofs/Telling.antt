-- The told-same classes are put into their rows, and then nothing that is known is due a row.
use Prim.Native.Nat.{ℕ, ◌+◌, ◌-◌, ◌*◌, ◌/◌, ◌%◌, ◌<◌, ◌≤◌}
use native.Mathlib.Decide.{ℕ_discrete, dec_lt}
use native.Mathlib.Omega.{arith}
use mathlib.Core.Path.{◌≡◌, refl, ap, sym, ◌∙◌, subst}
use mathlib.Core.Bool.{Bool, true, false, not, ◌||◌}
use mathlib.Core.List.{List}
use lib.ListN.{length, get_or}
use borrow.Author.Tests.{eq-eqb, ne_eqb, eqb-true}
use Rattle.book.specs.declared.header.Counts.{Counts}
use Rattle.rows.specs.Row.{at, has, Put}
use Rattle.rows.specs.Table.{base, Table}
use Rattle.rules.specs.Fact.{cap, top, pair}
use Rattle.rules.specs.Meaning.{conclusions}
use Rattle.rules.specs.ToldSame.{same}
use Rattle.rules.proofs.Tests.{false_true, not-true, or_right}
use Rattle.rules.proofs.Least.{count_none}
use Rattle.rules.proofs.Facts.{pair_of}
use Rattle.tables.proofs.Open.{whole}
use Rattle.tables.specs.Open.{book_of, size_of, Open}
use Rattle.tables.specs.Tables.{Blank}
use Rattle.rounds.proofs.Facts.{open_sized}
use Rattle.rounds.proofs.Start.{no_facts, blank_kept}
use Rattle.derivation.specs.Tables.{LabelsOf}
use Rattle.steps.specs.Joinings.{due_count, due_of}
use Rattle.steps.specs.Written.{class_row_lem, known_in, Listed}
use Rattle.steps.proofs.Joinings.{due_low, due_pair, joining_pair}
use Rattle.steps.proofs.Known.{known_low, known_pair, together_has, table_alike, facts_same}
use Rattle.steps.proofs.Rows.{written_none}
use Rattle.listing.specs.Told.{one_label_lem, ToldOne, ToldRow, ToldRows}

-- ---- the rows

or-false : (a : Bool) → a ≡ (a || false)
or-false true = refl
or-false false = refl

module _ {K : List ℕ} {i k : ℕ} where
  pub told_put : {j : ℕ} {s t : List ℕ} → get_or K i 0 ≡ get_or K j 0 → Put s (k * 512 + j) t → ToldOne K i k j s t
  told_put {j} {s} e p = record { len = p.len; there = p.there ∙ sym (or_right (has s k j) (one_label_lem K i j) (eq-eqb _ _ e)); other = p.other }

  pub told_skip : (j : ℕ) (s : List ℕ) → (get_or K i 0 ≡ get_or K j 0 → ⊥) → ToldOne K i k j s s
  told_skip j s e = record { len = refl; there = or-false (has s k j) ∙ ap (λ (b : Bool). has s k j || b) (sym (ne_eqb _ _ e)); other = λ x q. refl }

  pub row_none : (s : List ℕ) → ToldRow K i k 0 s s
  row_none s = record { len = refl; there = λ j l. absurd (omega arith); other = λ x q. refl }

  pub row_more : (m : ℕ) {s t u : List ℕ} → ToldRow K i k m s t → ToldOne K i k m t u → ToldRow K i k (m + 1) s u
  row_more m {s} {t} {u} r o = record { len = o.len ∙ r.len; there = λ j l. go j l (ℕ_discrete j m); other = λ x q. o.other x (q m (omega arith)) ∙ r.other x (λ j l. q j (omega arith)) }
    where
      last : has u k m ≡ (has s k m || one_label_lem K i m)
      last = o.there ∙ ap (λ (b : Bool). b || one_label_lem K i m) (r.other (k * 512 + m) (λ j l e. omega arith))

      go : (j : ℕ) → j < m + 1 → Dec (j ≡ m) → has u k j ≡ (has s k j || one_label_lem K i j)
      go j l (yes e) = subst (λ (x : ℕ). has u k x ≡ (has s k x || one_label_lem K i x)) (sym e) last
      go j l (no e) = o.other (k * 512 + j) (λ q. e (omega arith)) ∙ r.there j (omega arith)

module _ (h : Counts) (K : List ℕ) where
  pub rows_none : (s : List ℕ) → ToldRows h K 0 s s
  rows_none s = record { len = refl; there = λ i j l. absurd (omega arith); before = λ x l. refl; behind = λ x l. refl }

  pub rows_more : (m : ℕ) {s t u : List ℕ} → h.individuals ≤ 512 → ToldRows h K m s t → ToldRow K m (class_row_lem h m) h.individuals t u → ToldRows h K (m + 1) s u
  rows_more m {s} {t} {u} few r o = record {
    len = o.len ∙ r.len;
    there = λ i j l n. go i j l n (ℕ_discrete i m);
    before = λ x l. o.other x (λ j n e. omega arith) ∙ r.before x l;
    behind = λ x l. o.other x (λ j n e. omega arith) ∙ r.behind x (omega arith);
  }
    where
      last : (j : ℕ) → j < h.individuals → has u (class_row_lem h m) j ≡ (has s (class_row_lem h m) j || one_label_lem K m j)
      last j l = o.there j l ∙ ap (λ (b : Bool). b || one_label_lem K m j) (r.behind (class_row_lem h m * 512 + j) (omega arith))

      go : (i j : ℕ) → i < m + 1 → j < h.individuals → Dec (i ≡ m) → has u (class_row_lem h i) j ≡ (has s (class_row_lem h i) j || one_label_lem K i j)
      go i j l n (yes e) = subst (λ (x : ℕ). has u (class_row_lem h x) j ≡ (has s (class_row_lem h x) j || one_label_lem K x j)) (sym e) (last j n)
      go i j l n (no e) = o.other (class_row_lem h i * 512 + j) (λ b c q. e (omega arith)) ∙ r.there i j (omega arith) n

-- ---- no row yet

module _ {s O : List ℕ} {h : Counts} {K t u : List ℕ} (o : Open s h O) (none : Blank t) (wide : class_row_lem h h.individuals * 8 ≤ length t) (of : LabelsOf (book_of s) h K) (w : ToldRows h K h.individuals t u) where
  first_table : Table (size_of h) t
  first_table = (blank_kept (open_sized o) (omega arith) none).table

  alike : (x : ℕ) → x < (base (size_of h) ((size_of h).fields - 1) + (size_of h).classes) * 512 → at u x ≡ at t x
  alike x l = w.before x (omega arith)

  class_has : (i j : ℕ) → i < h.individuals → j < h.individuals → has u (class_row_lem h i) j ≡ same (book_of s) i j
  class_has i j k l = w.there i j k l ∙ (ap (λ (b : Bool). b || one_label_lem K i j) (none (class_row_lem h i * 512 + j)) ∙ of.labels i j k l)

  turned : (i j : ℕ) → i < h.individuals → j < h.individuals → same (book_of s) i j ≡ true → same (book_of s) j i ≡ true
  turned i j k l e = sym (of.labels j i l k) ∙ eq-eqb (get_or K j 0) (get_or K i 0) (sym (eqb-true (get_or K i 0) (get_or K j 0) (of.labels i j k l ∙ e)))

  not_same : (i j : ℕ) → not (same (book_of s) i j) ≡ true → same (book_of s) i j ≡ true → ⊥
  not_same i j a b = false_true (sym (ap (λ (x : Bool). not x) b) ∙ a)

  -- a pair that is known is told, and so no joining
  no_pair : (i j : ℕ) → j < 512 → due_of (book_of s) (known_in h u) (pair i j) ≡ true → ⊥
  no_pair i j l e =
      let a = joining_pair (book_of s) (known_in h u) i j (sym (due_pair (book_of s) (known_in h u) i j l) ∙ e) in
      let b = together_has h u i j (sym (known_pair h u i j l) ∙ a.1) in
      not_same i j a.2 (sym (class_has i j b.0 b.1) ∙ b.2)

  none_due : (f : ℕ) → due_of (book_of s) (known_in h u) f ≡ false
  none_due f = go (dec_lt f cap)
    where
      go : Dec (f < cap) → due_of (book_of s) (known_in h u) f ≡ false
      go (yes l) = due_low (book_of s) (known_in h u) f l ∙ (known_low h u f l ∙ (facts_same u first_table w.len alike f ∙ no_facts (size_of h) t none f))
      go (no l) = not-true _ (λ e. no_pair ((f - 16908288) / 512) (f % 512) (omega arith) (ap (due_of (book_of s) (known_in h u)) (pair_of f (omega arith)) ∙ e))

  pub listed_none : {l : List ℕ} → 9 * due_count (book_of s) (conclusions (book_of s)) ≤ length l → Listed s h u 0 l
  listed_none {l} room = record {
    whole = (whole o);
    counts = o.counts;
    table = table_alike u first_table w.len alike;
    tally = sym (count_none (due_of (book_of s) (known_in h u)) top none_due);
    written = written_none (book_of s) (due_of (book_of s) (known_in h u)) l none_due;
    room = room;
    marks = omega (arith, w.len);
    classes = omega (arith, w.len);
    told = λ i j a b e. class_has i j a b ∙ e;
    turn = λ i j a b e. class_has j i b a ∙ turned i j a b (sym (class_has i j a b) ∙ e);
  }
