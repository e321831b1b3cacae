-- What the code lays out is the written book.
use Prim.Native.Nat.{ℕ, zero, suc, ◌+◌, ◌≤◌, ◌<◌}
use native.Mathlib.Omega.{arith}
use mathlib.Core.Path.{◌≡◌, refl, sym, ap, ap₂, ◌∙◌, subst}
use mathlib.Core.Bool.{Bool, true, false}
use mathlib.Core.List.{List, [], ◌∷◌, ◌++◌, append_assoc}
use lib.ListN.{length, get_or, take, drop, length-append}
use lib.Seq.{slice, slice_empty, slice-cons, length-slice, take-suc, take-length, length-take-le}
use lib.Dec.{eqb}
use borrow.Author.Tests.{eq-eqb, ne_eqb, eqb-true, eqb-false, lt-ltb, le-ltb}
use Rattle.book.specs.declared.header.Counts.{Counts}
use Rattle.book.specs.declared.statement.Statement.{Statement}
use Rattle.book.specs.Read.{pick}
use Rattle.book.specs.Header.{counting, Limits}
use Rattle.book.specs.Reader.{rest}
use Rattle.book.specs.Bytes.{Bytes, Has, header_bytes, statement_bytes, statements_bytes}
use Rattle.std.specs.Prelude.{Result, Ok, Err, IsErrAnd}
use Rattle.book.specs.Refusal.{number}
use Rattle.book.specs.declared.refusal.Refusal.{Refusal}
use Rattle.book.specs.Book.{Book, accepted, refused, decode, concept_offset, BookChecked}
use Rattle.book.proofs.Bytes.{statement_read, bytes_snoc}
use Rattle.book.proofs.Accepted.{accepted_rest, accepted_limits, accepted_statements, checked_accepted}
use Rattle.writer.specs.Kept.{kept}
use Rattle.writer.specs.Written.{Written, Refused, as_answer, written, laid_out, writes}
use Rattle.writer.specs.Gathering.{spare, Records}
use Rattle.writer.specs.Lay.{over, recounted, total, records_bytes, Stand}
use Rattle.writer.specs.Located.{Located}
use Rattle.writer.proofs.Counted.{header_recounts, header_two}
use Rattle.writer.proofs.Repeats.{kept_length, kept_none, kept_short}
use Rattle.writer.proofs.Written.{offsets_go, header_stands, statements_stand, written_parts}
use Rattle.writer.proofs.Over.{records_size, recounted_length}

-- what stands from an offset on
has_slice : (s l : List ℕ) (at : ℕ) → Has s at l → at + length l ≤ length s → slice at (at + length l) s ≡ l
has_slice s [] at h r = let q : at + 0 ≡ at = omega arith in rw q (slice_empty at s)
has_slice s (b ∷ l) at h r =
    let q : at + suc (length l) ≡ at + 1 + length l = omega arith in
    let o : suc at ≡ at + 1 = omega arith in
    rw q (slice-cons at (at + 1 + length l) s 0 (omega arith) (omega arith) ∙ ap₂ (λ (x : ℕ) (y : List ℕ). x ∷ y) h.1 (ap (λ (i : ℕ). slice i (at + 1 + length l) s) o ∙ has_slice s l (at + 1) h.2 (omega arith)))

-- the kept records are the statements' bytes
module _ (s : List ℕ) (bytes : Bytes s) (h : Counts) (xs : List Statement) (n : ℕ) (place size : List ℕ) (r : Records s h xs n place size) (inside : (k : ℕ) → k < n → get_or place k 0 + get_or size k 0 ≤ length s) where
  record_bytes : (k : ℕ) → k < n → slice (get_or place k 0) (get_or place k 0 + get_or size k 0) s ≡ statement_bytes (get_or xs k spare)
  record_bytes k l =
      let at = get_or place k 0 in
      let b = statement_bytes (get_or xs k spare) in
      let laid = statement_read s h at (get_or xs k spare) (at + get_or size k 0) (r.reads k l) in
      ap (λ (e : ℕ). slice at e s) laid.ends ∙ has_slice s b at (laid.has bytes) (omega (arith, laid.ends, inside k l))

  records_first : (k : ℕ) → k ≤ n → records_bytes s place size k ≡ statements_bytes (take k xs)
  unfolding records_bytes statements_bytes
  records_first zero l = refl
  records_first (suc k) l =
      ap₂ (λ (a : List ℕ) (b : List ℕ). a ++ b) (records_first k (omega arith)) (record_bytes k (omega arith))
      ∙ (sym (bytes_snoc (take k xs) (get_or xs k spare)) ∙ ap statements_bytes (sym (take-suc xs k spare (omega (arith, r.counted)))))

  pub records_are : records_bytes s place size n ≡ statements_bytes xs
  records_are = records_first n (omega arith) ∙ ap statements_bytes (ap (λ (k : ℕ). take k xs) (sym r.counted) ∙ take-length xs)

pub located_limits : {s : List ℕ} {h : Counts} {front start : ℕ} → Located s h front start → Limits h
located_limits {s} loc = subst Limits loc.counts (accepted_limits s loc.book loc.whole)

-- of a located book, with the records of the statements that stay
module _ (s : List ℕ) (bytes : Bytes s) (h : Counts) (front start : ℕ) (loc : Located s h front start) where
  abbrev B : Book
  B = loc.book

  abbrev ks : List Statement
  ks = kept B.statements

  pub located_rest : rest s h start ≡ B.statements
  located_rest = ap₂ (λ (c : Counts) (i : ℕ). rest s c i) (sym loc.counts) loc.statements_at_lem ∙ accepted_rest s B loc.whole

  pub located_many : length (rest s h start) ≡ h.statements
  located_many = ap length located_rest ∙ (accepted_statements s B loc.whole ∙ ap (λ (c : Counts). c.statements) loc.counts)

  front_goes : (front ≤ start) × (start ≤ length s)
  front_goes = let g = offsets_go s B loc.whole in (omega (arith, loc.concepts_at_lem, loc.statements_at_lem, g.0), omega (arith, loc.statements_at_lem, g.1))

  header_is : take front s ≡ header_bytes B.counts
  header_is =
      let laid = header_stands s B loc.whole in
      let f : front ≡ 0 + length (header_bytes B.counts) = loc.concepts_at_lem ∙ laid.ends in
      ap (λ (i : ℕ). slice 0 i s) f ∙ has_slice s (header_bytes B.counts) 0 (laid.has bytes) (omega (arith, f, front_goes))

  module _ (n : ℕ) (place size : List ℕ) (r : Records s h (kept (rest s h start)) n place size) (st : Stand s n place size) where
    ours : Records s B.counts ks n place size
    ours = subst (λ (c : Counts). Records s c ks n place size) (sym loc.counts) (subst (λ (l : List Statement). Records s h (kept l) n place size) located_rest r)

    counted : length ks ≡ n
    counted = ours.counted

    some_front : 0 < n → 2 ≤ front
    some_front l =
        let d : (B.counts.statements ≡ 0 → ⊥) = (λ z. omega (arith, kept_length B.statements, accepted_statements s B loc.whole, counted)) in
        omega (arith, header_two B.counts d, loc.concepts_at_lem, (header_stands s B loc.whole).ends)

    header_now : recounted (take front s) n ≡ header_bytes (counting B.counts (length ks))
    header_now =
        let a : (n ≡ 0 → B.counts.statements ≡ 0) = (λ z. sym (accepted_statements s B loc.whole) ∙ kept_none B.statements (counted ∙ z)) in
        let b : (B.counts.statements ≡ 0 → n ≡ 0) = (λ z. omega (arith, kept_length B.statements, accepted_statements s B loc.whole, counted)) in
        ap (λ (l : List ℕ). recounted l n) header_is ∙ (header_recounts B.counts n a b ∙ ap (λ (i : ℕ). header_bytes (counting B.counts i)) (sym counted))

    back_is : records_bytes s place size n ≡ statements_bytes ks
    back_is = records_are s bytes B.counts ks n place size ours st.inside

    -- the parts one after the other
    pub parts_are : recounted (take front s) n ++ slice front start s ++ records_bytes s place size n ≡ written s
    parts_are =
        let m : slice front start s ≡ slice (concept_offset s 0) (concept_offset s B.counts.concepts) s = ap₂ (λ (a : ℕ) (b : ℕ). slice a b s) loc.concepts_at_lem loc.statements_at_lem in
        append_assoc (recounted (take front s) n) (slice front start s) (records_bytes s place size n)
        ∙ (ap₂ (λ (a : List ℕ) (b : List ℕ). a ++ b) header_now (ap₂ (λ (a : List ℕ) (b : List ℕ). a ++ b) m back_is) ∙ sym (written_parts s B loc.whole))

    -- they end inside the book
    pub parts_end : start + total size n ≤ length s
    parts_end = omega (arith, loc.statements_at_lem, records_size s place size n st.inside, ap length back_is, kept_short B.statements, statements_stand s B loc.whole)

    parts_length : length (written s) ≡ start + total size n
    parts_length =
        let h = recounted (take front s) n in
        let m = slice front start s in
        let a : length h ≡ front = recounted_length (take front s) n (λ l. omega (arith, length-take-le front s (omega (arith, front_goes)), some_front l)) ∙ length-take-le front s (omega (arith, front_goes)) in
        sym (ap length parts_are) ∙ (length-append (h ++ m) (records_bytes s place size n) ∙ omega (arith, length-append h m, a, length-slice front start s front_goes.1, front_goes.0, records_size s place size n st.inside))

    -- what laying out asks
    pub parts_fit : (room end : ℕ) → end ≡ start + total size n → end ≤ room → (front ≤ start) × (start ≤ length s) × (start + total size n ≤ room) × (0 < n → 2 ≤ front) × (n < 65536)
    parts_fit room end e l = (front_goes.0, front_goes.1, omega arith, some_front, omega (arith, located_many, (located_limits loc).statements_top, ap length located_rest, kept_length B.statements, counted))

    -- the two ways out
    module _ (out : List ℕ) (end : ℕ) (ends : end ≡ start + total size n) where
      long : length (written s) ≡ end
      long = parts_length ∙ sym ends

      pub writes_short : length out < end → record { answer = Refused 12; out = out } ≡ laid_out (written s) out
      writes_short l = rw (lt-ltb (length out) (length (written s)) (omega (arith, long))) refl

      pub writes_fits : end ≤ length out → (out' : List ℕ) → out' ≡ over out 0 (recounted (take front s) n ++ slice front start s ++ records_bytes s place size n) → record { answer = Written end; out = out' } ≡ laid_out (written s) out
      unfolding over
      writes_fits l out' e =
          let z : 0 + length (written s) ≡ length (written s) = omega arith in
          let q : out' ≡ written s ++ drop (length (written s)) out = e ∙ (ap (λ (w : List ℕ). take 0 out ++ w ++ drop (0 + length w) out) parts_are ∙ ap (λ (i : ℕ). written s ++ drop i out) z) in
          rw (le-ltb (length out) (length (written s)) (omega (arith, long))) (ap₂ (λ (i : ℕ) (o : List ℕ). record { answer = Written i; out = o }) (sym long) q)

-- the book, located by its check
pub located : (s : List ℕ) (r : Result (Counts × ℕ) Refusal) (h : Counts) (start front : ℕ) (offsets : List ℕ) → length offsets ≡ 1 → BookChecked s r offsets → r ≡ Ok (h, start) → front ≡ pick (eqb h.concepts 0) start (get_or offsets 0 0) → Located s h front start
located s r h start front offsets one checked is e =
    let a = checked_accepted s offsets r checked h start is in
    record { book = a.0; whole = a.1; counts = a.2; concepts_at_lem = e ∙ go (eqb h.concepts 0) refl a.0 a.1 a.2 a.3; statements_at_lem = a.3 }
  where
    go : (t : Bool) → eqb h.concepts 0 ≡ t → (b : Book) → decode s ≡ accepted b → b.counts ≡ h → start ≡ concept_offset s b.counts.concepts → pick t start (get_or offsets 0 0) ≡ concept_offset s 0
    go true q b w c p = p ∙ ap (concept_offset s) (ap (λ (x : Counts). x.concepts) c ∙ eqb-true h.concepts 0 q)
    go false q b w c p =
        let d : (h.concepts ≡ 0 → ⊥) = eqb-false h.concepts 0 q in
        let k : 0 < b.counts.concepts = subst (λ (x : Counts). 0 < x.concepts) (sym c) (omega arith) in
        checked.starts b w 0 k (omega arith)

pub writes_accepted : (s out : List ℕ) (B : Book) → decode s ≡ accepted B → laid_out (written s) out ≡ writes s out
unfolding writes written
writes_accepted s out B whole = simp whole

pub writes_refused : (s out : List ℕ) (n : ℕ) → decode s ≡ refused n → record { answer = Refused n; out = out } ≡ writes s out
unfolding writes
writes_refused s out n e = simp e

pub refused_as : (r : Result ℕ Refusal) (e : Refusal) → IsErrAnd r (λ y. y ≡ e) → as_answer r ≡ Refused (number e)
refused_as (Ok n) e p = absurd p
refused_as (Err y) e p = ap (λ (z : Refusal). Refused (number z)) p

pub front_none : (concepts start first : ℕ) → concepts ≡ 0 → start ≡ pick (eqb concepts 0) start first
front_none concepts start first e = simp (eq-eqb concepts 0 e)

pub front_some : (concepts start first : ℕ) → (concepts ≡ 0 → ⊥) → first ≡ pick (eqb concepts 0) start first
front_some concepts start first d = simp (ne_eqb concepts 0 d)
