-- An accepted book with other statements, as bytes: they decode to it, and with its own statements they are the book's own.
use Prim.Native.Nat.{ℕ, zero, suc, ◌+◌, ◌-◌, ◌≤◌, ◌<◌}
use native.Mathlib.Omega.{arith}
use mathlib.Core.Path.{◌≡◌, refl, sym, ap, ◌∙◌, subst}
use mathlib.Core.List.{List, [], ◌++◌, append_assoc, append-nil}
use lib.ListN.{length, drop, length-append, get_or-append}
use lib.Seq.{slice, slice_empty, slice-cons, get_or-append-add, drop_at, take_at, take-append-add}
use Rattle.book.specs.declared.header.Counts.{Counts}
use Rattle.book.specs.declared.statement.Statement.{Statement}
use Rattle.book.specs.Read.{value, several}
use Rattle.book.specs.Header.{counting, header, Limits}
use Rattle.book.specs.Statement.{statement}
use Rattle.book.specs.Within.{Every, StatementWithin}
use Rattle.book.specs.Bytes.{Bytes, Has, header_bytes, statements_bytes}
use Rattle.book.specs.Book.{Book, with_statements, concepts, accepted, decode, concept_offset, concept_bytes, restated}
use Rattle.book.proofs.Parsing.{forward_several}
use Rattle.book.proofs.Bytes.{header_read, header_laid, statements_read, statements_laid, has_put, has_append, has_whole}
use Rattle.book.proofs.Accepted.{decode_of, forward_statement, accepted_limits, accepted_statements}
use Rattle.book.proofs.Equal.{lay, first_offset, last_offset, records_go, records_length, records_read}

module _ (s : List ℕ) (b : Book) (whole : decode s ≡ accepted b) (xs : List Statement) where
  abbrev h : Counts
  h = counting b.counts (length xs)

  abbrev front : List ℕ
  front = header_bytes h

  abbrev middle : List ℕ
  middle = concept_bytes s b

  abbrev back : List ℕ
  back = statements_bytes xs

  abbrev w : List ℕ
  w = front ++ (middle ++ back)

  is_w : restated s b xs ≡ w
  unfolding restated
  is_w = refl

  size : length w ≡ length front + length middle + length back
  size = length-append front (middle ++ back) ∙ omega (arith, length-append middle back)

  module _ (few : length xs ≤ 4096) (within : Every (StatementWithin h) xs) where
    limits : Limits h
    limits =
        let l = accepted_limits s b whole in
        record { classes_top = l.classes_top; roles_top = l.roles_top; individuals_top = l.individuals_top; concepts_top = l.concepts_top; statements_top = few }

    w_header : header w 0 ≡ value h (length front)
    w_header = let z : 0 + length front ≡ length front = omega arith in header_laid w h limits 0 (has_put [] front (middle ++ back) 0 refl) ∙ ap (value h) z

    w_concepts : concepts h b.counts.concepts w (length front) ≡ value b.concepts (length front + length middle)
    w_concepts = records_read s b whole w (length front) (omega (arith, size)) (λ i l. sym (get_or-append-add front (middle ++ back) i 0 ∙ get_or-append middle back 0 i l)) (length xs)

    w_statements : several (statement h) (length xs) w (length front + length middle) ≡ value xs (length front + length middle + length back)
    w_statements =
        let q : (front ++ middle) ++ (back ++ []) ≡ w = append_assoc front middle (back ++ []) ∙ ap (λ (l : List ℕ). front ++ (middle ++ l)) (append-nil back) in
        statements_laid h limits w xs within (length front + length middle) (subst (λ (x : List ℕ). Has x (length front + length middle) back) q (has_put (front ++ middle) back [] (length front + length middle) (length-append front middle)))

    -- the bytes decode to the book with those statements
    pub restated_decodes : decode (restated s b xs) ≡ accepted (with_statements b xs)
    restated_decodes = rw is_w (decode_of w (with_statements b xs) (length front) (length front + length middle) (length front + length middle + length back) w_header w_concepts w_statements (omega (arith, size)))

    -- and keep the concept records
    pub restated_concepts : concept_bytes (restated s b xs) (with_statements b xs) ≡ concept_bytes s b
    unfolding concept_bytes concept_offset concepts
    restated_concepts =
        rw is_w
        (simp (w_header, w_concepts)
        (ap (drop (length front)) (take-append-add front (middle ++ back) (length middle) ∙ ap (λ (l : List ℕ). front ++ l) (take_at middle back (length middle) refl)) ∙ drop_at front middle (length front) refl))

    -- so that nothing stays of statements that others take the place of
    pub restated_again : (ys : List Statement) → restated (restated s b xs) (with_statements b xs) ys ≡ restated s b ys
    restated_again ys = go (restated s b xs) restated_concepts
      where
        go : (t : List ℕ) → concept_bytes t (with_statements b xs) ≡ concept_bytes s b → restated t (with_statements b xs) ys ≡ restated s b ys
        go t e = unfold restated in ap (λ (m : List ℕ). header_bytes (counting b.counts (length ys)) ++ (m ++ statements_bytes ys)) e

slice_has : (s : List ℕ) (d at e : ℕ) → at + d ≡ e → e ≤ length s → Has s at (slice at e s)
slice_has s zero at e q l = let z : e ≡ at = omega arith in rw (z, slice_empty at s) tt
slice_has s (suc d) at e q l =
    let b : at < e = omega arith in
    let r : at + 1 ≡ suc at = omega arith in
    rw (slice-cons at e s 0 b l) (omega arith, refl, rw r (slice_has s d (suc at) e (omega arith) l))

module _ (s : List ℕ) (b : Book) (whole : decode s ≡ accepted b) (bytes : Bytes s) where
  has_middle : Has s (lay s b whole).at (concept_bytes s b)
  unfolding concept_bytes
  has_middle = let y = lay s b whole in rw (first_offset s b whole, last_offset s b whole) (slice_has s (y.start - y.at) y.at y.start (omega (arith, (records_go s b whole).0)) (records_go s b whole).1)

  -- with its own statements a book is what it was, byte for byte
  pub restated_own : restated s b b.statements ≡ s
  unfolding restated
  restated_own =
      let y = lay s b whole in
      let n = accepted_statements s b whole in
      let head = header_read s 0 b.counts y.at y.head in
      let read = statements_read s b.counts y.start b.counts.statements b.statements y.end y.list in
      let goes = forward_several (statement b.counts) (forward_statement b.counts) b.counts.statements s y.start b.statements y.end (records_go s b whole).1 y.list in
      let front = header_bytes b.counts in
      let middle = concept_bytes s b in
      let back = statements_bytes b.statements in
      let p : 0 + length front ≡ y.at = omega (arith, head.ends) in
      let q : y.at + length middle ≡ y.start = omega (arith, records_length s b whole, (records_go s b whole).0) in
      let long : length (front ++ (middle ++ back)) ≡ length s = length-append front (middle ++ back) ∙ omega (arith, length-append middle back, p, q, read.ends, goes.1, y.ends) in
      let rest : Has s y.at (middle ++ back) = has_append s middle back y.at has_middle (subst (λ (m : ℕ). Has s m back) (sym q) (read.has bytes)) in
      ap (λ (m : ℕ). header_bytes (counting b.counts m) ++ (middle ++ back)) n
      ∙ sym (has_whole s (front ++ (middle ++ back)) long (has_append s front (middle ++ back) 0 (head.has bytes) (subst (λ (m : ℕ). Has s m (middle ++ back)) (sym p) rest)))
