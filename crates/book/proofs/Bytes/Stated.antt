-- Statements as bytes: each is read back, what was read is laid out so, and repeats are equal statements.
use Prim.Native.Nat.{ℕ, zero, suc, ◌+◌, ◌*◌, ◌/◌, ◌%◌, ◌≤◌, ◌<◌}
use native.Mathlib.Omega.{arith}
use mathlib.Core.Path.{◌≡◌, refl, sym, ap, ap₂, ◌∙◌, subst, subst₂}
use mathlib.Core.Bool.{Bool, true, false, not, ◌&&◌, ◌||◌}
use mathlib.Core.List.{List, [], ◌∷◌, ◌++◌, append_assoc, append-nil}
use lib.ListN.{length, get_or, set, replicate, length-append}
use lib.Dec.{ltb, leb, eqb, lit<, lit≤}
use borrow.Author.Tests.{lt-ltb, le-leb, eqb-true, eqb-false, eq-eqb}
use Rattle.book.specs.declared.header.Counts.{Counts}
use Rattle.book.specs.Table.{Start}
use Rattle.book.specs.declared.statement.Axiom.{Axiom}
use Rattle.book.specs.declared.statement.Statement.{Statement}
use Rattle.book.specs.declared.role.Role.{Role}
use Rattle.book.specs.declared.role.Role.TheVariants.{Named, Inverse}
use Rattle.book.specs.Read.{pick, value, Parser, several}
use Rattle.book.specs.Role.{role_of_lem, field_of_lem, role_id}
use Rattle.book.specs.Header.{Limits}
use Rattle.book.specs.declared.statement.SubRolePath.TheVariants.{One, Two, Three}
use Rattle.book.specs.declared.statement.Axiom.TheVariants.{SubClassOf, EquivalentClasses, DisjointClasses, InverseObjectProperties, SubObjectPropertyOf, TransitiveRole, SymmetricRole, FunctionalRole, InverseFunctionalRole, ObjectPropertyDomain, ObjectPropertyRange, SameIndividual, ClassAssertion, ObjectPropertyAssertion, DifferentIndividuals, NegativeObjectPropertyAssertion}
use Rattle.book.specs.Table.{statement_allows_lem}
use Rattle.book.specs.Statement.{statement_start_lem, statement_limits, unmarked, path_of_lem, axiom_of_lem, statement_of_lem, statement_end_lem, statement_rest_lem, statement}
use Rattle.book.specs.Within.{Every, RoleWithin, Within, StatementWithin}
use Rattle.book.specs.Field.{byte, two_bytes_lem, fields}
use Rattle.book.specs.Bytes.{Has, two_of, Place, gap, put, map_of, bytes_of, mark, marks, padded, form_of, whole_of, statement_bytes, statements_bytes, same_place, same_places, repeats, fill, places_of}
use Rattle.book.proofs.Parsing.{came, held, same_value, several_none, several_more}
use Rattle.book.proofs.role.Laws.{role_of_field}
use Rattle.book.proofs.statement.Laws.{start_known, low_bits, axiom_low, through}
use Rattle.book.proofs.field.Laws.{two_read}
use Rattle.book.proofs.Bytes.Entries.{has_front, has_back, two_laid, byte_laid, Low, Fit, fields_laid, Laid, laid_then, two_bytes, byte_read, fields_read}
use Rattle.book.proofs.Bytes.Marks.{Small, small_zero, places_map, gaps, gaps_map, gaps_bytes, bits_places, marks_from, marks_placed, mark_fit, fit_append, mark_map, map-append, fill_append, mark_fill}

and_true : (a b : Bool) → (a && b) ≡ true → (a ≡ true) × (b ≡ true)
and_true true b e = (refl, e)
and_true false b e = absurd (let o : ◌≡◌ {A = ℕ} 0 1 = cc in omega arith)

pub field_of_role : (f : ℕ) → field_of_lem (role_of_lem f) ≡ f
unfolding role_of_lem
field_of_role f = go (eqb (f % 2) 0) refl
  where
    go : (b : Bool) → eqb (f % 2) 0 ≡ b → field_of_lem (pick b (Named (f / 2)) (Inverse (f / 2))) ≡ f
    go true e = let q = eqb-true (f % 2) 0 e in omega arith
    go false e = let q : f % 2 ≡ 0 → ⊥ = eqb-false (f % 2) 0 e in omega arith

-- what a statement says: the places of bits 0 to 7
abbrev own : Axiom → List Place
own x = padded 8 (form_of x).places

start_of : Axiom → Start
start_of x = record { kind = (form_of x).kind; map = map_of (own x) }

-- source and days among the values
abbrev put_marks : ℕ → ℕ → ℕ → List ℕ → List ℕ
put_marks n f l v = set (set (set v 8 n) 9 f) 10 l

record Known (x : Axiom) : Type 0 where
  some : not (eqb (form_of x).kind 0) ≡ true
  few : ltb (form_of x).kind 17 ≡ true
  allowed : statement_allows_lem (form_of x).kind (map_of (own x)) ≡ true
  eight : length (own x) ≡ 8
  number : map_of (own x) < 256
  clear : (n f : ℕ) → let v = fill 0 (own x) unmarked in (get_or v 8 0 ≡ 0) × (get_or (set v 8 n) 9 0 ≡ 0) × (get_or (set (set v 8 n) 9 f) 10 0 ≡ 65535)
  marked : (n f l : ℕ) → let v = put_marks n f l (fill 0 (own x) unmarked) in (get_or v 8 0 ≡ n) × (get_or v 9 0 ≡ f) × (get_or v 10 0 ≡ l)

known : (x : Axiom) → Known x
unfolding statement_allows_lem
known (SubClassOf c d) = record { some = refl; few = refl; allowed = refl; eight = refl; number = lit< tt; clear = λ n f. (refl, refl, refl); marked = λ n f l. (refl, refl, refl) }
known (EquivalentClasses c d) = record { some = refl; few = refl; allowed = refl; eight = refl; number = lit< tt; clear = λ n f. (refl, refl, refl); marked = λ n f l. (refl, refl, refl) }
known (DisjointClasses c d) = record { some = refl; few = refl; allowed = refl; eight = refl; number = lit< tt; clear = λ n f. (refl, refl, refl); marked = λ n f l. (refl, refl, refl) }
known (InverseObjectProperties r s) = record { some = refl; few = refl; allowed = refl; eight = refl; number = lit< tt; clear = λ n f. (refl, refl, refl); marked = λ n f l. (refl, refl, refl) }
known (SubObjectPropertyOf (One r) t) = record { some = refl; few = refl; allowed = refl; eight = refl; number = lit< tt; clear = λ n f. (refl, refl, refl); marked = λ n f l. (refl, refl, refl) }
known (SubObjectPropertyOf (Two r s) t) = record { some = refl; few = refl; allowed = refl; eight = refl; number = lit< tt; clear = λ n f. (refl, refl, refl); marked = λ n f l. (refl, refl, refl) }
known (SubObjectPropertyOf (Three r s u) t) = record { some = refl; few = refl; allowed = refl; eight = refl; number = lit< tt; clear = λ n f. (refl, refl, refl); marked = λ n f l. (refl, refl, refl) }
known (TransitiveRole r) = record { some = refl; few = refl; allowed = refl; eight = refl; number = lit< tt; clear = λ n f. (refl, refl, refl); marked = λ n f l. (refl, refl, refl) }
known (SymmetricRole r) = record { some = refl; few = refl; allowed = refl; eight = refl; number = lit< tt; clear = λ n f. (refl, refl, refl); marked = λ n f l. (refl, refl, refl) }
known (FunctionalRole r) = record { some = refl; few = refl; allowed = refl; eight = refl; number = lit< tt; clear = λ n f. (refl, refl, refl); marked = λ n f l. (refl, refl, refl) }
known (InverseFunctionalRole r) = record { some = refl; few = refl; allowed = refl; eight = refl; number = lit< tt; clear = λ n f. (refl, refl, refl); marked = λ n f l. (refl, refl, refl) }
known (ObjectPropertyDomain r c) = record { some = refl; few = refl; allowed = refl; eight = refl; number = lit< tt; clear = λ n f. (refl, refl, refl); marked = λ n f l. (refl, refl, refl) }
known (ObjectPropertyRange r c) = record { some = refl; few = refl; allowed = refl; eight = refl; number = lit< tt; clear = λ n f. (refl, refl, refl); marked = λ n f l. (refl, refl, refl) }
known (SameIndividual i j) = record { some = refl; few = refl; allowed = refl; eight = refl; number = lit< tt; clear = λ n f. (refl, refl, refl); marked = λ n f l. (refl, refl, refl) }
known (ClassAssertion c i) = record { some = refl; few = refl; allowed = refl; eight = refl; number = lit< tt; clear = λ n f. (refl, refl, refl); marked = λ n f l. (refl, refl, refl) }
known (ObjectPropertyAssertion r i j) = record { some = refl; few = refl; allowed = refl; eight = refl; number = lit< tt; clear = λ n f. (refl, refl, refl); marked = λ n f l. (refl, refl, refl) }
known (DifferentIndividuals i j) = record { some = refl; few = refl; allowed = refl; eight = refl; number = lit< tt; clear = λ n f. (refl, refl, refl); marked = λ n f l. (refl, refl, refl) }
known (NegativeObjectPropertyAssertion r i j) = record { some = refl; few = refl; allowed = refl; eight = refl; number = lit< tt; clear = λ n f. (refl, refl, refl); marked = λ n f l. (refl, refl, refl) }

-- a form says which statement it is of, whatever its source and its days
axiom_filled : (x : Axiom) (n f l : ℕ) → axiom_of_lem (start_of x) (put_marks n f l (fill 0 (own x) unmarked)) ≡ x
unfolding axiom_of_lem path_of_lem start_of
axiom_filled (SubClassOf c d) n f l = refl
axiom_filled (EquivalentClasses c d) n f l = refl
axiom_filled (DisjointClasses c d) n f l = refl
axiom_filled (InverseObjectProperties r s) n f l = simp role_of_field
axiom_filled (SubObjectPropertyOf (One r) t) n f l = simp role_of_field
axiom_filled (SubObjectPropertyOf (Two r s) t) n f l = simp role_of_field
axiom_filled (SubObjectPropertyOf (Three r s u) t) n f l = simp role_of_field
axiom_filled (TransitiveRole r) n f l = simp role_of_field
axiom_filled (SymmetricRole r) n f l = simp role_of_field
axiom_filled (FunctionalRole r) n f l = simp role_of_field
axiom_filled (InverseFunctionalRole r) n f l = simp role_of_field
axiom_filled (ObjectPropertyDomain r c) n f l = simp role_of_field
axiom_filled (ObjectPropertyRange r c) n f l = simp role_of_field
axiom_filled (SameIndividual i j) n f l = refl
axiom_filled (ClassAssertion c i) n f l = refl
axiom_filled (ObjectPropertyAssertion r i j) n f l = simp role_of_field
axiom_filled (DifferentIndividuals i j) n f l = refl
axiom_filled (NegativeObjectPropertyAssertion r i j) n f l = simp role_of_field

-- and so does a whole record's
whole_map : (x : Statement) → map_of (whole_of x).places ≡ map_of (own x.body) + 256 * map_of (marks x)
whole_map x =
    let q = map-append (own x.body) (marks x) in
    eightfold _ _ (map_of (marks x)) (rw (known x.body).eight at q)
  where
    eightfold : (a b m : ℕ) → a ≡ b + (2 * (2 * (2 * (2 * (2 * (2 * (2 * (2 * m)))))))) → a ≡ b + 256 * m
    eightfold a b m e = omega arith

marks_map : (x : Statement) → map_of (marks x) ≤ 7
marks_map x =
    let l = mark_map 65535 x.last [] in
    let f = mark_map 0 x.first (mark 65535 x.last ∷ []) in
    let n = mark_map 0 x.source (mark 0 x.first ∷ mark 65535 x.last ∷ []) in
    nested _ _ _ l f n
  where
    nested : (a b c : ℕ) → a ≤ 2 * 0 + 1 → b ≤ 2 * a + 1 → c ≤ 2 * b + 1 → c ≤ 7
    nested a b c p q r = omega arith

whole_low : (x : Statement) → map_of (whole_of x).places % 256 ≡ map_of (own x.body)
whole_low x = low _ _ _ (whole_map x) (known x.body).number
  where
    low : (a b m : ℕ) → a ≡ b + 256 * m → b < 256 → a % 256 ≡ b
    low a b m e l = omega arith

whole_top : (x : Statement) → map_of (whole_of x).places < 2048
whole_top x = top _ _ _ (whole_map x) (known x.body).number (marks_map x)
  where
    top : (a b m : ℕ) → a ≡ b + 256 * m → b < 256 → m ≤ 7 → a < 2048
    top a b m e l n = omega arith

whole_short : (x : Statement) → length (whole_of x).places ≤ 16
whole_short x = omega (arith, length-append (own x.body) (marks x), (known x.body).eight)

abbrev whole_start : Statement → Start
whole_start x = record { kind = (whole_of x).kind; map = map_of (whole_of x).places }

statement_filled : (x : Statement) → statement_of_lem (whole_start x) (fill 0 (whole_of x).places unmarked) ≡ x
unfolding start_of
statement_filled x =
    let a = own x.body in
    let u = fill 0 a unmarked in
    let v = put_marks x.source x.first x.last u in
    let k = known x.body in
    let clear = k.clear x.source x.first in
    let marked = k.marked x.source x.first x.last in
    let put : fill 8 (marks x) u ≡ v =
    mark_fill 8 0 x.source (mark 0 x.first ∷ mark 65535 x.last ∷ []) u clear.0
    ∙ (mark_fill 9 0 x.first (mark 65535 x.last ∷ []) (set u 8 x.source) clear.1
    ∙ mark_fill 10 65535 x.last [] (set (set u 8 x.source) 9 x.first) clear.2) in
    let q : fill 0 (whole_of x).places unmarked ≡ v = fill_append 0 a (marks x) unmarked ∙ (ap (λ (n : ℕ). fill (0 + n) (marks x) u) k.eight ∙ put) in
    let start = whole_start x in
    let low : axiom_of_lem start v ≡ x.body = sym (axiom_low start.kind start.map v) ∙ (ap (λ (m : ℕ). axiom_of_lem (record { kind = start.kind; map = m }) v) (whole_low x) ∙ axiom_filled x.body x.source x.first x.last) in
    ap (statement_of_lem start) q ∙ made (axiom_of_lem start v) (get_or v 8 0) (get_or v 9 0) (get_or v 10 0) low marked.0 marked.1 marked.2
  where
    made : (b : Axiom) (n f l : ℕ) → b ≡ x.body → n ≡ x.source → f ≡ x.first → l ≡ x.last → record { body = b; source = n; first = f; last = l } ≡ x
    made b n f l p q r s = rw (p, q, r, s) refl

role_fits : (r : Role) (n : ℕ) → role_id r < n → field_of_lem r < 2 * n
role_fits (Named r) n l = omega arith
role_fits (Inverse r) n l = omega arith

module _ (h : Counts) (lim : Limits h) where
  role_low : (r : Role) → RoleWithin h r → Low (field_of_lem r) (2 * h.roles) 65536
  role_low r w = let q = role_fits r h.roles w in (q, omega (arith, lim.roles_top))

  concept_low : (c : ℕ) → c < h.concepts → Low c h.concepts 65536
  concept_low c l = (l, omega (arith, lim.concepts_top))

  individual_low : (c : ℕ) → c < h.individuals → Low c h.individuals 65536
  individual_low c l = (l, omega (arith, lim.individuals_top))

  form_fits : (x : Axiom) → Within h x → Fit (statement_limits h) unmarked 0 (own x)
  form_fits (SubClassOf c d) w = (concept_low c w.0, (concept_low d w.1, tt))
  form_fits (EquivalentClasses c d) w = (concept_low c w.0, (concept_low d w.1, tt))
  form_fits (DisjointClasses c d) w = (concept_low c w.0, (concept_low d w.1, tt))
  form_fits (InverseObjectProperties r s) w = (role_low r w.0, (role_low s w.1, tt))
  form_fits (SubObjectPropertyOf (One r) t) w = (role_low r w.0, (role_low t w.1, tt))
  form_fits (SubObjectPropertyOf (Two r s) t) w = (role_low r w.0.0, (role_low s w.0.1, (role_low t w.1, tt)))
  form_fits (SubObjectPropertyOf (Three r s u) t) w = (role_low r w.0.0, (role_low s w.0.1, (role_low u w.0.2, (role_low t w.1, tt))))
  form_fits (TransitiveRole r) w = (role_low r w, tt)
  form_fits (SymmetricRole r) w = (role_low r w, tt)
  form_fits (FunctionalRole r) w = (role_low r w, tt)
  form_fits (InverseFunctionalRole r) w = (role_low r w, tt)
  form_fits (ObjectPropertyDomain r c) w = (role_low r w.0, (concept_low c w.1, tt))
  form_fits (ObjectPropertyRange r c) w = (role_low r w.0, (concept_low c w.1, tt))
  form_fits (SameIndividual i j) w = (individual_low i w.0, (individual_low j w.1, tt))
  form_fits (ClassAssertion c i) w = (concept_low c w.0, (individual_low i w.1, tt))
  form_fits (ObjectPropertyAssertion r i j) w = (role_low r w.0, (individual_low i w.1, (individual_low j w.2, tt)))
  form_fits (DifferentIndividuals i j) w = (individual_low i w.0, (individual_low j w.1, tt))
  form_fits (NegativeObjectPropertyAssertion r i j) w = (role_low r w.0, (individual_low i w.1, (individual_low j w.2, tt)))

  whole_fits : (x : Statement) → StatementWithin h x → Fit (statement_limits h) unmarked 0 (whole_of x).places
  whole_fits x w =
      let limits = statement_limits h in
      let last = mark_fit limits unmarked 10 65535 x.last [] refl w.last_top tt in
      let first = mark_fit limits unmarked 9 0 x.first (mark 65535 x.last ∷ []) refl (omega (arith, w.period, w.last_top)) last in
      fit_append limits unmarked 0 (own x.body) (marks x) (form_fits x.body w.body)
      (rw (known x.body).eight (mark_fit limits unmarked 8 0 x.source (mark 0 x.first ∷ mark 65535 x.last ∷ []) refl w.source_top first))

  statement_of_law : (s : List ℕ) (at k a m b : ℕ) (v : List ℕ) (e : ℕ) → byte s at ≡ value k a → not (eqb k 0) ≡ true → ltb k 17 ≡ true → two_bytes_lem s a ≡ value m b → ltb m 2048 ≡ true → statement_allows_lem k (m % 256) ≡ true → fields m (statement_limits h) unmarked 9 s b ≡ value v e → leb (get_or v 9 0) (get_or v 10 0) ≡ true → statement h s at ≡ value (statement_of_lem (record { kind = k; map = m }) v) e
  unfolding statement statement_start_lem statement_rest_lem statement_end_lem
  statement_of_law s at k a m b v e t some few u top allowed f period = simp (t, some, few, u, top, allowed, f, period)

  -- a statement is read back
  pub statement_laid : (s : List ℕ) (at : ℕ) (x : Statement) → StatementWithin h x → Has s at (statement_bytes x) → statement h s at ≡ value x (at + length (statement_bytes x))
  unfolding statement_bytes fields
  statement_laid s at x w has =
      let k = (whole_of x).kind in
      let ps = (whole_of x).places in
      let m = map_of ps in
      let a = byte_laid s at k has.0 has.1 in
      let b = two_laid s (at + 1) m has.2.0 has.2.1 has.2.2.0 has.2.2.1 in
      let z : at + 1 + 1 + 1 ≡ at + 1 + 2 = omega arith in
      let f = fields_laid (statement_limits h) 9 s unmarked ps 16 0 unmarked (at + 1 + 2) (whole_short x) (lit≤ tt) (λ j c d. refl) (whole_fits x w) (rw z at has.2.2.2) in
      let q : at + suc (suc (suc (length (bytes_of ps)))) ≡ at + 1 + 2 + length (bytes_of ps) = omega arith in
      let period : leb (get_or (fill 0 ps unmarked) 9 0) (get_or (fill 0 ps unmarked) 10 0) ≡ true = ap (λ (y : Statement). leb y.first y.last) (statement_filled x) ∙ le-leb _ _ w.period in
      statement_of_law s at k (at + 1) m (at + 1 + 2) (fill 0 ps unmarked) (at + 1 + 2 + length (bytes_of ps)) a (known x.body).some (known x.body).few b (lt-ltb _ _ (whole_top x)) (rw (whole_low x) (known x.body).allowed) f period
      ∙ ap₂ (λ (y : Statement) (z : ℕ). value y z) (statement_filled x) (sym q)

-- and what was read is laid out so
module _ (v : List ℕ) where
  abbrev Shows : ℕ → ℕ → Type 0
  Shows kind map = let x = axiom_of_lem (record { kind = kind; map = map }) v in ((form_of x).kind ≡ kind) × (places_of 8 0 map v ≡ own x)

  one_of_lem : (kind map a b c : ℕ) → (eqb map a || eqb map b || eqb map c) ≡ true → Shows kind a → Shows kind b → Shows kind c → Shows kind map
  one_of_lem kind map a b c t x y z = go (eqb map a) (eqb map b) (eqb map c) refl refl refl t
    where
      go : (p q r : Bool) → eqb map a ≡ p → eqb map b ≡ q → eqb map c ≡ r → (p || q || r) ≡ true → Shows kind map
      go true q r e f g t = subst (Shows kind) (sym (eqb-true map a e)) x
      go false true r e f g t = subst (Shows kind) (sym (eqb-true map b f)) y
      go false false true e f g t = subst (Shows kind) (sym (eqb-true map c g)) z
      go false false false e f g t = absurd (let o : ◌≡◌ {A = ℕ} 0 1 = cc in omega arith)

  only : (kind map a : ℕ) → (eqb map a || eqb map a || eqb map a) ≡ true → Shows kind a → Shows kind map
  only kind map a t x = one_of_lem kind map a a a t x x x

  kinds_show : (kind map : ℕ) → (kind ≡ 0 → ⊥) → kind < 17 → statement_allows_lem kind map ≡ true → Shows kind map
  unfolding axiom_of_lem path_of_lem statement_allows_lem
  kinds_show zero map d l t = absurd (d refl)
  kinds_show (suc zero) map d l t = only 1 map 0x30 t (refl, refl)
  kinds_show (suc (suc zero)) map d l t = only 2 map 0x30 t (refl, refl)
  kinds_show (suc (suc (suc zero))) map d l t = only 3 map 0x30 t (refl, refl)
  kinds_show (suc (suc (suc (suc zero)))) map d l t = only 4 map 0x03 t (refl, simp field_of_role)
  kinds_show (suc (suc (suc (suc (suc zero))))) map d l t = one_of_lem 5 map 0x09 0x0B 0x0F t (refl, simp field_of_role) (refl, simp field_of_role) (refl, simp field_of_role)
  kinds_show (suc (suc (suc (suc (suc (suc zero)))))) map d l t = only 6 map 0x01 t (refl, simp field_of_role)
  kinds_show (suc (suc (suc (suc (suc (suc (suc zero))))))) map d l t = only 7 map 0x01 t (refl, simp field_of_role)
  kinds_show (suc (suc (suc (suc (suc (suc (suc (suc zero)))))))) map d l t = only 8 map 0x01 t (refl, simp field_of_role)
  kinds_show (suc (suc (suc (suc (suc (suc (suc (suc (suc zero))))))))) map d l t = only 9 map 0x01 t (refl, simp field_of_role)
  kinds_show (suc (suc (suc (suc (suc (suc (suc (suc (suc (suc zero)))))))))) map d l t = only 10 map 0x11 t (refl, simp field_of_role)
  kinds_show (suc (suc (suc (suc (suc (suc (suc (suc (suc (suc (suc zero))))))))))) map d l t = only 11 map 0x11 t (refl, simp field_of_role)
  kinds_show (suc (suc (suc (suc (suc (suc (suc (suc (suc (suc (suc (suc zero)))))))))))) map d l t = only 12 map 0xC0 t (refl, refl)
  kinds_show (suc (suc (suc (suc (suc (suc (suc (suc (suc (suc (suc (suc (suc zero))))))))))))) map d l t = only 13 map 0x50 t (refl, refl)
  kinds_show (suc (suc (suc (suc (suc (suc (suc (suc (suc (suc (suc (suc (suc (suc zero)))))))))))))) map d l t = only 14 map 0xC1 t (refl, simp field_of_role)
  kinds_show (suc (suc (suc (suc (suc (suc (suc (suc (suc (suc (suc (suc (suc (suc (suc zero))))))))))))))) map d l t = only 15 map 0xC0 t (refl, refl)
  kinds_show (suc (suc (suc (suc (suc (suc (suc (suc (suc (suc (suc (suc (suc (suc (suc (suc zero)))))))))))))))) map d l t = only 16 map 0xC1 t (refl, simp field_of_role)
  kinds_show (suc (suc (suc (suc (suc (suc (suc (suc (suc (suc (suc (suc (suc (suc (suc (suc (suc k))))))))))))))))) map d l t = absurd (omega arith)

values_room : 0 + 16 ≤ length unmarked
values_room = omega arith

-- the places of what was read: those of what it says, source and days, and gaps
module _ (m : ℕ) (l : m < 2048) (v : List ℕ) where
  -- nothing stands above the days
  eleventh : m / 2 / 2 / 2 / 2 / 2 / 2 / 2 / 2 / 2 / 2 / 2 ≡ 0
  eleventh = omega arith

  small : Small 16 m
  small = rw eleventh (small_zero 5)

  tails : (ps qs rs ts : List Place) → length ps ≡ length qs → ps ++ rs ≡ qs ++ ts → rs ≡ ts
  tails [] [] rs ts n e = e
  tails [] (b ∷ qs) rs ts n e = absurd (omega arith)
  tails (a ∷ ps) [] rs ts n e = absurd (omega arith)
  tails (a ∷ ps) (b ∷ qs) rs ts n e = let f : ps ++ rs ≡ qs ++ ts = cc in tails ps qs rs ts (omega arith) f

  three : (p₀ p₁ p₂ c₀ c₁ c₂ : Place) (ps cs gs : List Place) → (p₀ ∷ p₁ ∷ p₂ ∷ ps) ≡ (c₀ ∷ c₁ ∷ c₂ ∷ cs) → ps ≡ gs → (p₀ ∷ p₁ ∷ p₂ ∷ ps) ≡ (c₀ ∷ c₁ ∷ c₂ ∷ gs)
  three p₀ p₁ p₂ c₀ c₁ c₂ ps cs gs q r =
      let a : p₀ ≡ c₀ = cc in
      let b : p₁ ≡ c₁ = cc in
      let c : p₂ ≡ c₂ = cc in
      cc

  marks_shown : (x : Statement) → x.source ≡ get_or v 8 0 → x.first ≡ get_or v 9 0 → x.last ≡ get_or v 10 0 → places_of 16 0 m v ≡ marks_from unmarked 16 0 v → places_of 8 8 (m / 2 / 2 / 2 / 2 / 2 / 2 / 2 / 2) v ≡ marks x ++ replicate 5 gap
  marks_shown x n f o e =
      let t = tails (places_of 8 0 m v) (marks_from unmarked 8 0 v) _ _ refl e in
      let g : places_of 5 11 (m / 2 / 2 / 2 / 2 / 2 / 2 / 2 / 2 / 2 / 2 / 2) v ≡ replicate 5 gap = ap (λ (y : ℕ). places_of 5 11 y v) eleventh ∙ gaps 5 11 v in
      rw (n, f, o) (three _ _ _ _ _ _ _ _ _ t g)

  places_shown : (kind : ℕ) → (kind ≡ 0 → ⊥) → kind < 17 → statement_allows_lem kind (m % 256) ≡ true → places_of 16 0 m v ≡ marks_from unmarked 16 0 v → ((form_of (axiom_of_lem (record { kind = kind; map = m }) v)).kind ≡ kind) × (places_of 16 0 m v ≡ (whole_of (statement_of_lem (record { kind = kind; map = m }) v)).places ++ replicate 5 gap)
  places_shown kind some few allowed e =
      let x = statement_of_lem (record { kind = kind; map = m }) v in
      let shows = subst (λ (a : Axiom). ((form_of a).kind ≡ kind) × (places_of 8 0 (m % 256) v ≡ own a)) (axiom_low kind m v) (kinds_show v kind (m % 256) some few allowed) in
      let front : places_of 8 0 m v ≡ own x.body = sym (bits_places 8 0 (m % 256) m v (λ j n. low_bits m j n)) ∙ shows.1 in
      let all : places_of 8 0 m v ++ places_of 8 8 (m / 2 / 2 / 2 / 2 / 2 / 2 / 2 / 2) v ≡ own x.body ++ (marks x ++ replicate 5 gap) = ap₂ (λ (a : List Place) (b : List Place). a ++ b) front (marks_shown x refl refl refl e) in
      (shows.0, all ∙ sym (append_assoc (own x.body) (marks x) (replicate 5 gap)))

shown : (y : Start) (k m : ℕ) (v : List ℕ) {l : List ℕ} → k ≡ (whole_of (statement_of_lem y v)).kind → m ≡ map_of (whole_of (statement_of_lem y v)).places → l ≡ bytes_of (whole_of (statement_of_lem y v)).places → (k ∷ m % 256 ∷ m / 256 ∷ l) ≡ statement_bytes (statement_of_lem y v)
unfolding statement_bytes
shown y k m v p q r = rw (p, q, r) refl

module _ (s : List ℕ) (h : Counts) (at : ℕ) (x : Statement) (e : ℕ) where
  pub statement_read : statement h s at ≡ value x e → Laid s at e (statement_bytes x)
  unfolding statement_start_lem fields
  statement_read t =
      let p = through s h at x e t in
      let st = start_known s at p.start p.then p.started in
      let a = came (byte s at) _ p.start p.then p.started in
      let z = held (not (eqb a.0 0)) 7 s a.1 _ p.start p.then a.3 in
      let b = held (ltb a.0 17) 7 s a.1 _ p.start p.then z.1 in
      let c = came (two_bytes_lem s a.1) _ p.start p.then b.1 in
      let n = held (ltb c.0 2048) 8 s c.1 _ p.start p.then c.3 in
      let d = held (statement_allows_lem a.0 (c.0 % 256)) 8 s c.1 _ p.start p.then n.1 in
      let y : Start = record { kind = a.0; map = c.0 } in
      let o = same_value y p.start c.1 p.then d.1 in
      let r = two_read s a.1 c.0 c.1 c.2 in
      let l₁ = byte_read s at a.0 a.1 a.2 in
      let l₂ = two_bytes s a.1 c.0 c.1 r.0 r.1 r.2 in
      let l₃ = fields_read (statement_limits h) 9 s p.values e 16 0 p.start.map unmarked p.then values_room p.run in
      let placed = marks_placed (statement_limits h) 9 s p.values e unmarked 16 0 p.start.map unmarked p.then values_room (λ j a b. refl) p.run in
      let shown = places_shown p.start.map st.map_top p.values p.start.kind st.kind_some st.kind_known st.map_known placed in
      stated p.start a.0 a.1 c.0 c.1 p.then p.values st.map_top shown.0 shown.1 o.0 o.1 p.made l₁ l₂ l₃
    where
      stated : (y : Start) (k a m b c : ℕ) (v : List ℕ) → y.map < 2048 → (form_of (axiom_of_lem y v)).kind ≡ y.kind → places_of 16 0 y.map v ≡ (whole_of (statement_of_lem y v)).places ++ replicate 5 gap → record { kind = k; map = m } ≡ y → b ≡ c → statement_of_lem y v ≡ x → Laid s at a (k ∷ []) → Laid s a b (two_of m) → Laid s c e (bytes_of (places_of 16 0 y.map v)) → Laid s at e (statement_bytes x)
      stated y k a m b c v top kind places o q g l₁ l₂ l₃ =
          let k' : k ≡ y.kind = ap (λ (z : Start). z.kind) o in
          let m' : m ≡ y.map = ap (λ (z : Start). z.map) o in
          let ps = (whole_of (statement_of_lem y v)).places in
          let n : map_of ps ≡ y.map = sym (gaps_map ps 5) ∙ (ap map_of (sym places) ∙ places_map 16 0 y.map v (small y.map top v)) in
          let bs : bytes_of (places_of 16 0 y.map v) ≡ bytes_of ps = ap bytes_of places ∙ gaps_bytes ps 5 in
          let head : Laid s at b (k ∷ two_of m) = laid_then (k ∷ []) (two_of m) l₁ l₂ in
          let all : Laid s at e (k ∷ two_of m ++ bytes_of (places_of 16 0 y.map v)) = laid_then (k ∷ two_of m) (bytes_of (places_of 16 0 y.map v)) head (rw q l₃) in
          let shows : (k ∷ m % 256 ∷ m / 256 ∷ bytes_of (places_of 16 0 y.map v)) ≡ statement_bytes (statement_of_lem y v) = shown y k m v (k' ∙ sym kind) (m' ∙ sym n) bs in
          subst (λ (z : Statement). Laid s at e (statement_bytes z)) g (subst (Laid s at e) shows all)

-- a repeat is an equal statement, and the other way round
same_places_lem : (ps qs : List Place) → same_places ps qs ≡ true → ps ≡ qs
same_places_lem [] [] t = refl
same_places_lem [] (q ∷ qs) t = absurd (let o : ◌≡◌ {A = ℕ} 0 1 = cc in omega arith)
same_places_lem (p ∷ ps) [] t = absurd (let o : ◌≡◌ {A = ℕ} 0 1 = cc in omega arith)
same_places_lem (p ∷ ps) (q ∷ qs) t = let b = and_true (same_place p q) (same_places ps qs) t in ap₂ (λ (x : Place) (l : List Place). x ∷ l) (place p q b.0) (same_places_lem ps qs b.1)
  where
    place : (p q : Place) → same_place p q ≡ true → p ≡ q
    place gap gap t = refl
    place gap (put w) t = absurd (let o : ◌≡◌ {A = ℕ} 0 1 = cc in omega arith)
    place (put v) gap t = absurd (let o : ◌≡◌ {A = ℕ} 0 1 = cc in omega arith)
    place (put v) (put w) t = ap put (eqb-true v w t)

places_same : (ps : List Place) → same_places ps ps ≡ true
places_same [] = refl
places_same (gap ∷ ps) = places_same ps
places_same (put v ∷ ps) = simp (eq-eqb v v refl, places_same ps)

pub repeats_equal : (x y : Statement) → repeats x y ≡ true → x ≡ y
unfolding repeats
repeats_equal x y t =
    let b = and_true (eqb (whole_of x).kind (whole_of y).kind) (same_places (whole_of x).places (whole_of y).places) t in
    let k = eqb-true _ _ b.0 in
    let p = same_places_lem (whole_of x).places (whole_of y).places b.1 in
    sym (statement_filled x) ∙ (ap₂ (λ (a : ℕ) (ps : List Place). statement_of_lem (record { kind = a; map = map_of ps }) (fill 0 ps unmarked)) k p ∙ statement_filled y)

pub repeats_self : (x : Statement) → repeats x x ≡ true
unfolding repeats
repeats_self x = simp (eq-eqb (whole_of x).kind (whole_of x).kind refl, places_same (whole_of x).places)

-- statements one after the other, from the front
module _ {A : Type 0} (p : Parser A) (s : List ℕ) (at : ℕ) (x : A) (m : ℕ) (first : p s at ≡ value x m) where
  several_front : (n : ℕ) (xs : List A) (e : ℕ) → several p n s m ≡ value xs e → several p (suc n) s at ≡ value (x ∷ xs) e
  unfolding several
  several_front zero xs e u = let q = same_value [] xs m e u in simp first (ap₂ (λ (l : List A) (n : ℕ). value (x ∷ l) n) q.0 q.1)
  several_front (suc n) xs e u = step (several_front n)
    where
      step : ((ys : List A) (f : ℕ) → several p n s m ≡ value ys f → several p (suc n) s at ≡ value (x ∷ ys) f) → several p (suc (suc n)) s at ≡ value (x ∷ xs) e
      step ih =
          let a = came (several p n s m) _ xs e u in
          let b = came (p s a.1) _ xs e a.3 in
          let q = same_value (a.0 ++ (b.0 ∷ [])) xs b.1 e b.3 in
          let k : suc n + 1 ≡ suc (suc n) = omega arith in
          subst (λ (j : ℕ). several p j s at ≡ value (x ∷ a.0 ++ (b.0 ∷ [])) b.1) k (several_more p s at (suc n) (x ∷ a.0) a.1 b.0 b.1 (ih a.0 a.1 a.2) b.2)
          ∙ ap₂ (λ (l : List A) (n : ℕ). value (x ∷ l) n) q.0 q.1

module _ (h : Counts) (lim : Limits h) (s : List ℕ) where
  pub statements_laid : (xs : List Statement) → Every (StatementWithin h) xs → (at : ℕ) → Has s at (statements_bytes xs) → several (statement h) (length xs) s at ≡ value xs (at + length (statements_bytes xs))
  unfolding statements_bytes
  statements_laid [] w at has = let q : at + 0 ≡ at = omega arith in rw q (several_none (statement h) s at)
  statements_laid (x ∷ xs) w at has =
      let b = statement_bytes x in
      let r = statements_bytes xs in
      let a = statement_laid h lim s at x w.0 (has_front s b r at has) in
      let q : at + length (b ++ r) ≡ at + length b + length r = omega (arith, length-append b r) in
      rw q (several_front (statement h) s at x (at + length b) a (length xs) xs (at + length b + length r) (statements_laid xs w.1 (at + length b) (has_back s b r at has)))

pub bytes_snoc : (xs : List Statement) (x : Statement) → statements_bytes (xs ++ (x ∷ [])) ≡ statements_bytes xs ++ statement_bytes x
unfolding statements_bytes
bytes_snoc [] x = append-nil (statement_bytes x)
bytes_snoc (y ∷ xs) x = ap (λ (l : List ℕ). statement_bytes y ++ l) (bytes_snoc xs x) ∙ sym (append_assoc (statement_bytes y) (statements_bytes xs) (statement_bytes x))

pub statements_read : (s : List ℕ) (h : Counts) (at n : ℕ) (xs : List Statement) (e : ℕ) → several (statement h) n s at ≡ value xs e → Laid s at e (statements_bytes xs)
unfolding several statements_bytes
statements_read s h at zero xs e t = let q = same_value [] xs at e t in subst₂ (λ (l : List Statement) (m : ℕ). Laid s at m (statements_bytes l)) q.0 q.1 (record { ends = omega arith; has = λ f. tt })
statements_read s h at (suc n) xs e t = step (statements_read s h at n)
  where
    step : ((ys : List Statement) (m : ℕ) → several (statement h) n s at ≡ value ys m → Laid s at m (statements_bytes ys)) → Laid s at e (statements_bytes xs)
    step ih =
        let a = came (several (statement h) n s at) _ xs e t in
        let b = came (statement h s a.1) _ xs e a.3 in
        let q = same_value (a.0 ++ (b.0 ∷ [])) xs b.1 e b.3 in
        let l = laid_then (statements_bytes a.0) (statement_bytes b.0) (ih a.0 a.1 a.2) (statement_read s h a.1 b.0 b.1 b.2) in
        subst₂ (λ (l : List Statement) (m : ℕ). Laid s at m (statements_bytes l)) q.0 q.1 (rw (bytes_snoc a.0 b.0) l)
