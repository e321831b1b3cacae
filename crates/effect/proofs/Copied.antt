-- The copy of an accepted book with a record behind it is what with_record says.
use Prim.Native.Nat.{ℕ, zero, suc, ◌+◌, ◌-◌, ◌*◌, ◌/◌, ◌%◌, ◌≤◌, ◌<◌}
use native.Mathlib.Omega.{arith}
use mathlib.Core.Path.{◌≡◌, refl, sym, ap, ap₂, ◌∙◌, subst}
use mathlib.Core.Bool.{Bool, true, false}
use mathlib.Core.List.{List, [], ◌∷◌, ◌++◌, append_assoc}
use lib.ListN.{length, get_or, set, drop, replicate, length-append, length-drop, get_or-append}
use lib.Seq.{get_or-append-add, get_or-drop, get_or-set_other, set-get_or}
use lib.Dec.{leb, ltb}
use borrow.Author.Tests.{lt-ltb, le-ltb, ltb-true, ltb-false, ne_eqb}
use Rattle.book.specs.declared.header.Counts.{Counts}
use Rattle.book.specs.declared.statement.Statement.{Statement}
use Rattle.book.specs.Read.{pick, Read, value, refusal, onward, Parser, unless, several}
use Rattle.book.specs.Field.{byte, two_bytes_lem, field, fields_from, fields}
use Rattle.book.specs.Header.{counting, count_limits, no_counts, header, Limits}
use Rattle.book.specs.Statement.{statement, statement_rest_lem}
use Rattle.book.specs.Tree.{Concept}
use Rattle.book.specs.Bytes.{Has, Place, gap, put, map_of, bytes_of, count, count_places, header_bytes}
use Rattle.book.specs.Book.{Book, concepts, book, Decoded, accepted, refused, decoded, decode}
use Rattle.book.proofs.Parsing.{several_more, several_refused, forward_several}
use Rattle.book.proofs.Bytes.{header_laid, has_put, two_laid, byte_laid, Fit}
use Rattle.book.proofs.Bytes.Entries.{field_laid}
use Rattle.book.proofs.Bytes.Marks.{mark_fit, mark_map}
use Rattle.book.proofs.Accepted.{Layout, layout, accepted_limits, accepted_statements, forward_statement}
use Rattle.book.proofs.Local.{across, Agrees, local_several, local_concepts, concepts_same}
use Rattle.book.proofs.Equal.{header_inside, records_go}
use Rattle.effect.specs.Copy.{raised, copy_of, copied, one_record, larger, entered, with_record}
use Rattle.effect.proofs.Moved.{moved, leb_same, moves_statement, local_statement}

-- fields of which one is too large, behind others that fit
module _ (limits : List ℕ) (over : ℕ) (s absent : List ℕ) (v : ℕ) (rs : List Place) where
  abbrev Clear : ℕ → List ℕ → Type 0
  Clear k values = (j : ℕ) → k ≤ j → j < 16 → get_or values j 0 ≡ get_or absent j 0

  one_over : (limit without at : ℕ) → limit ≤ v → (v ≡ without → ⊥) → two_bytes_lem s at ≡ value v (at + 2) → field 1 limit without over s at ≡ refusal over
  unfolding field
  one_over limit without at l d t = simp (t, ne_eqb _ _ d, le-ltb _ _ l)

  gap_over : (n k map : ℕ) (values : List ℕ) (at : ℕ) → fields_from limits over n (k + 1) map values s at ≡ refusal over → (onward (field 0 (get_or limits k 0) (get_or values k 0) over s at) λ w m. fields_from limits over n (k + 1) map (set values k w) s m) ≡ refusal over
  unfolding field
  gap_over n k map values at t = rw (set-get_or values k 0) t

  fields_over : (qs : List Place) (n k : ℕ) (values : List ℕ) (at : ℕ) → length qs < n → k + n ≤ 16 → Clear k values → Fit limits absent k qs → get_or limits (k + length qs) 0 ≤ v → (v ≡ get_or absent (k + length qs) 0 → ⊥) → Has s at (bytes_of (qs ++ (put v ∷ rs))) → fields_from limits over n k (map_of (qs ++ (put v ∷ rs))) values s at ≡ refusal over
  unfolding fields_from
  fields_over qs zero k values at a b c f l d h = absurd (omega arith)
  fields_over [] (suc n) k values at a b c f l d h =
      let m = map_of rs in
      let q : (2 * m + 1) % 2 ≡ 1 = omega arith in
      let z : k + 0 ≡ k = omega arith in
      let e : get_or values k 0 ≡ get_or absent k 0 = c k (omega arith) (omega arith) in
      let t = one_over (get_or limits k 0) (get_or absent k 0) at (rw z at l) (rw z at d) (two_laid s at v h.0 h.1 h.2.0 h.2.1) in
      rw (q, e, t) refl
  fields_over (gap ∷ qs) (suc n) k values at a b c f l d h =
      let m = map_of (qs ++ (put v ∷ rs)) in
      let q : 2 * m % 2 ≡ 0 = omega arith in
      let r : 2 * m / 2 ≡ m = omega arith in
      let z : k + suc (length qs) ≡ k + 1 + length qs = omega arith in
      rw (q, r) (gap_over n k m values at (fields_over qs n (k + 1) values at (omega arith) (omega arith) (λ j x y. c j (omega arith) y) f (rw z at l) (rw z at d) h))
  fields_over (put w ∷ qs) (suc n) k values at a b c f l d h =
      let m = map_of (qs ++ (put v ∷ rs)) in
      let q : (2 * m + 1) % 2 ≡ 1 = omega arith in
      let r : (2 * m + 1) / 2 ≡ m = omega arith in
      let e : get_or values k 0 ≡ get_or absent k 0 = c k (omega arith) (omega arith) in
      let t = field_laid s at w (get_or limits k 0) (get_or absent k 0) over f.0.0 f.0.1 (two_laid s at w h.0 h.1 h.2.0 h.2.1) in
      let y : at + 1 + 1 ≡ at + 2 = omega arith in
      let z : k + suc (length qs) ≡ k + 1 + length qs = omega arith in
      let clear : Clear (k + 1) (set values k w) = (λ j x y. let d : (j ≡ k → ⊥) = omega arith in get_or-set_other values k j w 0 d ∙ c j (omega arith) y) in
      rw (q, r, e, t) (fields_over qs n (k + 1) (set values k w) (at + 2) (omega arith) (omega arith) clear f.1 (rw z at l) (rw z at d) (rw y at h.2.2))

-- a header with one statement too many
module _ (w : List ℕ) (h : Counts) (lim : Limits h) (n : ℕ) (many : 4096 < n) where
  abbrev qs : List Place
  qs = count h.classes ∷ count h.roles ∷ count h.individuals ∷ count h.concepts ∷ []

  abbrev ps : List Place
  ps = qs ++ (put n ∷ replicate 11 gap)

  places : count_places (counting h n) ≡ ps
  places = let d : (n ≡ 0 → ⊥) = (λ q. omega arith) in ap (λ (b : Bool). qs ++ (pick b gap (put n) ∷ replicate 11 gap)) (ne_eqb n 0 d)

  fit : Fit count_limits no_counts 0 qs
  fit =
      mark_fit count_limits no_counts 0 0 h.classes (count h.roles ∷ count h.individuals ∷ count h.concepts ∷ []) refl (omega (arith, lim.classes_top))
      (mark_fit count_limits no_counts 1 0 h.roles (count h.individuals ∷ count h.concepts ∷ []) refl (omega (arith, lim.roles_top))
      (mark_fit count_limits no_counts 2 0 h.individuals (count h.concepts ∷ []) refl (omega (arith, lim.individuals_top))
      (mark_fit count_limits no_counts 3 0 h.concepts [] refl (omega (arith, lim.concepts_top)) tt)))

  map_low : map_of ps < 32
  map_low =
      let gs = put n ∷ replicate 11 gap in
      let s₃ = mark_map 0 h.concepts gs in
      let s₂ = mark_map 0 h.individuals (count h.concepts ∷ gs) in
      let s₁ = mark_map 0 h.roles (count h.individuals ∷ count h.concepts ∷ gs) in
      let s₀ = mark_map 0 h.classes (count h.roles ∷ count h.individuals ∷ count h.concepts ∷ gs) in
      nested _ _ _ _ s₃ s₂ s₁ s₀
    where
      nested : (b c d e : ℕ) → b ≤ 2 * 1 + 1 → c ≤ 2 * b + 1 → d ≤ 2 * c + 1 → e ≤ 2 * d + 1 → e < 32
      nested b c d e q r s t = omega arith

  header_of : (m : ℕ) → byte w 0 ≡ value m 1 → m < 32 → fields m count_limits no_counts 6 w 1 ≡ refusal 6 → header w 0 ≡ refusal 6
  unfolding header
  header_of m t l f = simp (t, lt-ltb _ _ l, f)

  header_full : Has w 0 (header_bytes (counting h n)) → header w 0 ≡ refusal 6
  unfolding header_bytes fields
  header_full has = go (subst (λ (l : List Place). Has w 0 (map_of l ∷ bytes_of l)) places has)
    where
      go : Has w 0 (map_of ps ∷ bytes_of ps) → header w 0 ≡ refusal 6
      go g = header_of (map_of ps) (byte_laid w 0 (map_of ps) g.0 g.1) map_low (fields_over count_limits 6 w no_counts n (replicate 11 gap) qs 16 0 no_counts 1 (omega arith) (omega arith) (λ j a b. refl) fit (omega arith) (λ q. omega arith) g.2)

-- one statement more changes no record
statement_raised : (h : Counts) → statement (raised h) ≡ statement h
unfolding statement statement_rest_lem
statement_raised h = refl

module _ (s x : List ℕ) (b : Book) (whole : decode s ≡ accepted b) where
  abbrev h : Counts
  h = b.counts

  abbrev lay : Layout s b whole
  lay = layout s b whole

  abbrev body : List ℕ
  body = drop lay.at s

  abbrev front : List ℕ
  front = header_bytes (raised h)

  abbrev copy : List ℕ
  copy = front ++ (body ++ x)

  is_copy : copied s x ≡ copy
  unfolding copied
  is_copy = ap (λ (r : Read Counts). copy_of r s x) lay.head

  has_front : Has copy 0 front
  has_front = has_put [] front (body ++ x) 0 refl

  -- where the copy has what stands at m
  abbrev place : ℕ → ℕ
  place m = across lay.at (length front) m

  body_length : length body ≡ length s - lay.at
  body_length = length-drop lay.at s

  size : length copy ≡ length front + length body + length x
  size = length-append front (body ++ x) ∙ omega (arith, length-append body x)

  agrees : (m e : ℕ) → lay.at ≤ m → e ≤ length s → Agrees s copy m e (place m)
  agrees m e a l i u v =
      let j = i - lay.at in
      let z : length front + j ≡ across m (place m) i = omega arith in
      let y : lay.at + j ≡ i = omega arith in
      ap (λ (k : ℕ). get_or s k 0) (sym y)
      ∙ (sym (get_or-drop lay.at s j 0)
      ∙ (sym (get_or-append body x 0 j (omega (arith, body_length)))
      ∙ (sym (get_or-append-add front (body ++ x) j 0) ∙ ap (λ (k : ℕ). get_or copy k 0) z)))

  -- the concepts and the statements of the book stand in the copy, and all of its bytes are theirs
  start_in : (lay.at ≤ lay.start) × (lay.start ≤ length s)
  start_in = records_go s b whole

  end_in : (lay.start + 0 ≤ lay.end) × (lay.end ≤ length s)
  end_in = forward_several (statement h) (forward_statement h) h.statements s lay.start b.statements lay.end start_in.1 lay.list

  trees : concepts (raised h) h.concepts copy (length front) ≡ value b.concepts (place lay.start)
  trees =
      let z : place lay.at ≡ length front = omega arith in
      let a : Agrees s copy lay.at lay.start (length front) = subst (Agrees s copy lay.at lay.start) z (agrees lay.at lay.start (omega arith) start_in.1) in
      concepts_same h h.concepts (h.statements + 1) copy (length front)
      ∙ (local_concepts h h.concepts).moves s copy lay.at b.concepts lay.start (length front) (header_inside s b whole) (omega (arith, size, body_length, start_in.0, start_in.1)) a lay.trees

  abbrev here : ℕ
  here = length front + length body

  listed : several (statement (raised h)) h.statements copy (place lay.start) ≡ value b.statements here
  listed =
      let z : across lay.start (place lay.start) lay.end ≡ here = omega (arith, body_length, start_in.0, end_in.0, end_in.1, lay.ends) in
      ap (λ (p : Parser Statement). several p h.statements copy (place lay.start)) (statement_raised h)
      ∙ ((local_several (statement h) (local_statement h) h.statements).moves s copy lay.start b.statements lay.end (place lay.start) start_in.1 (omega (arith, z, size)) (agrees lay.start lay.end start_in.0 end_in.1) lay.list
      ∙ ap (value b.statements) z)

  -- the record is read as by itself
  read_record : statement (raised h) copy here ≡ moved here (statement h x 0)
  read_record =
      let len : length (front ++ body) ≡ here = length-append front body in
      let z : here + 0 ≡ here = omega arith in
      ap (λ (p : Parser Statement). p copy here) (statement_raised h)
      ∙ (ap₂ (λ (l : List ℕ) (n : ℕ). statement h l n) (sym (append_assoc front body x)) (sym z)
      ∙ subst (λ (n : ℕ). statement h ((front ++ body) ++ x) (n + 0) ≡ moved n (statement h x 0)) len (moves_statement h (front ++ body) x 0))

  -- the book of bytes of which the header is known
  abbrev behind : Read Counts → Decoded
  behind r = decoded (onward r λ h at. onward (concepts h h.concepts copy at) λ cs m. onward (several (statement h) h.statements copy m) λ xs e. onward (unless (leb (length copy) e) 10 copy e) λ u next. value (record { counts = h; concepts = cs; statements = xs }) next)

  decode_copy : decode (copied s x) ≡ behind (header copy 0)
  unfolding decode book
  decode_copy = ap (λ (l : List ℕ). decoded (book l 0)) is_copy

  module _ (room : h.statements < 4096) where
    raised_limits : Limits (raised h)
    raised_limits =
        let l = accepted_limits s b whole in
        record { classes_top = l.classes_top; roles_top = l.roles_top; individuals_top = l.individuals_top; concepts_top = l.concepts_top; statements_top = omega arith }

    abbrev to_end : Read (List Statement) → Decoded
    to_end r = decoded (onward r λ xs e. onward (unless (leb (length copy) e) 10 copy e) λ u next. value (record { counts = raised h; concepts = b.concepts; statements = xs }) next)

    with_list : (r : Read (List Statement)) → several (statement (raised h)) (h.statements + 1) copy (place lay.start) ≡ r → decode (copied s x) ≡ to_end r
    with_list r e =
        let z : 0 + length front ≡ length front = omega arith in
        decode_copy
        ∙ (ap behind (header_laid copy (raised h) raised_limits 0 has_front ∙ ap (value (raised h)) z)
        ∙ (ap (λ (t : Read (List Concept)). decoded (onward t λ cs m. onward (several (statement (raised h)) (h.statements + 1) copy m) λ xs e. onward (unless (leb (length copy) e) 10 copy e) λ u next. value (record { counts = raised h; concepts = cs; statements = xs }) next)) trees
        ∙ ap to_end e))

    more : (y : Statement) → h.statements + 1 ≡ length (b.statements ++ (y ∷ []))
    more y = omega (arith, accepted_statements s b whole, length-append b.statements (y ∷ []))

    abbrev read : Statement → Book
    read y = record { counts = raised h; concepts = b.concepts; statements = b.statements ++ (y ∷ []) }

    read_is : (y : Statement) → read y ≡ larger b y
    read_is y = ap (λ (n : ℕ). record { counts = counting h n; concepts = b.concepts; statements = b.statements ++ (y ∷ []) }) (more y)

    step : (r : Read Statement) → statement h x 0 ≡ r → decode (copied s x) ≡ entered b (onward r λ y m. onward (unless (leb (length x) m) 10 x m) λ u next. value y next)
    step (refusal n) q =
        with_list (refusal n) (several_refused (statement (raised h)) copy (place lay.start) h.statements b.statements here n (h.statements + 1) listed (read_record ∙ ap (moved here) q) (omega arith))
    step (value y m) q =
        with_list (value (b.statements ++ (y ∷ [])) (here + m)) (several_more (statement (raised h)) copy (place lay.start) h.statements b.statements here y (here + m) listed (read_record ∙ ap (moved here) q))
        ∙ (ap (λ (t : Bool). decoded (onward (unless t 10 copy (here + m)) λ u next. value (read y) next)) (leb_same (length copy) (here + m) (length x) m (λ l. omega (arith, size)) (λ l. omega (arith, size)))
        ∙ go (leb (length x) m))
      where
        go : (t : Bool) → decoded (onward (unless t 10 copy (here + m)) λ u next. value (read y) next) ≡ entered b (onward (unless t 10 x m) λ u next. value y next)
        go true = ap accepted (read_is y)
        go false = refl

    roomy : decode (copied s x) ≡ entered b (one_record h x 0)
    unfolding one_record
    roomy = step (statement h x 0) refl

  full : 4096 ≤ h.statements → decode (copied s x) ≡ refused 6
  full over = decode_copy ∙ ap behind (header_full copy h (accepted_limits s b whole) (h.statements + 1) (omega arith) has_front)

  -- THE LAW of the copy
  pub copied_is : decode (copied s x) ≡ with_record b x
  unfolding with_record
  copied_is = go (ltb h.statements 4096) refl
    where
      go : (t : Bool) → ltb h.statements 4096 ≡ t → decode (copied s x) ≡ pick t (entered b (one_record h x 0)) (refused 6)
      go true q = roomy (ltb-true h.statements 4096 q)
      go false q = full (ltb-false h.statements 4096 q)
