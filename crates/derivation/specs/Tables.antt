-- What the checker's tables say of a book.
use Rattle.std.specs.Prelude.{ℕ, ◌+◌, ◌*◌, ◌%◌, ◌<◌, ◌≤◌, ◌≡◌, Bool, ◌&&◌, ◌||◌, List, [], ◌∷◌, length, get_or, eqb, ltb, Some}
use Rattle.book.specs.Header.{Limits}
use Rattle.book.specs.Read.{pick}
use Rattle.book.specs.Role.{role_id, field_of_lem}
use Rattle.book.specs.Tree.{Concept}
use Rattle.book.specs.Book.{Book}
use Rattle.book.specs.Reader.{turn_at_lem}
use Rattle.book.specs.Within.{Every}
use Rattle.book.specs.declared.header.Counts.{Counts}
use Rattle.book.specs.declared.role.Role.{Role}
use Rattle.book.specs.declared.statement.Axiom.{Axiom}
use Rattle.book.specs.declared.statement.Statement.{Statement}
use Rattle.rows.specs.Row.{at, has}
use Rattle.rules.specs.Rule.{some}
use Rattle.rules.specs.Brought.{concept, Value, Shape, atomic, nominal, conjunction, existential, other, shape, leaves, atomic_of, atomics, values}
use Rattle.rules.specs.ToldSame.{same}
use Rattle.tables.specs.Leaf.{kind_in, LeafWithin, Leaves}
use Rattle.derivation.specs.Fits.{joins, pair_clash}
use Rattle.derivation.specs.Accept.{member}
use Rattle.derivation.specs.declared.deep.ConceptTables.{ConceptTables}

-- A leaf that tells a fact has a slot: a has-value its role field times 512 plus the individual, an Atomic 65,536 plus its class; all else shares the slot
-- 65,792.
abbrev pub no_slot : ℕ
no_slot = 65792

abbrev pub value_slot : Role → Shape → ℕ
value_slot r (atomic c) = no_slot
value_slot r (nominal b) = pick (ltb (field_of_lem r) 128 && ltb b 512) (field_of_lem r * 512 + b) no_slot
value_slot r (conjunction es) = no_slot
value_slot r (existential s e) = no_slot
value_slot r other = no_slot

abbrev pub shape_slot : Shape → ℕ
shape_slot (atomic c) = pick (ltb c 256) (65536 + c) no_slot
shape_slot (nominal b) = no_slot
shape_slot (conjunction es) = no_slot
shape_slot (existential r e) = value_slot r (shape e)
shape_slot other = no_slot

abbrev pub slot_tree : Concept → ℕ
slot_tree e = shape_slot (shape e)

-- the same, of a leaf as a number
unfoldable pub slot_of : ℕ → ℕ
slot_of x =
    pick (eqb (kind_in x) 1) (pick (ltb (x % 1048576) 256) (65536 + x % 1048576) no_slot)
    (pick (eqb (kind_in x) 4) (pick (ltb (x % 1048576) 65536) (x % 1048576) no_slot) no_slot)

-- The slots S have for each slot the number of one concept that is such a leaf. Row d of D, 4,096 bits, has the numbers of the leaves of concept d, at any
-- depth of And. Whether a leaf of concept d has slot y:
unfoldable pub leaf_has_lem : ℕ → List ℕ → List ℕ → List ℕ → ℕ → ℕ → Bool
leaf_has_lem n L S D d y = ltb (get_or S y 0) n && (eqb (slot_of (get_or L (get_or S y 0) 0)) y && at D (d * 4096 + get_or S y 0))

-- the tables of concepts have room, and their numbers are the book's own
pub record Concepts (h : Counts) (L S D : List ℕ) : Type 0 where
  pub limits : Limits h
  pub leaves : h.concepts ≤ length L
  pub leaf_low : (k : ℕ) → k < h.concepts → LeafWithin h (get_or L k 0)
  pub slots : length S ≡ 65793
  pub deep : h.concepts * 64 ≤ length D

-- they say what a book says of its concepts: the leaf of each L, and its leaves at any depth S and D
pub record ConceptsOf (B : Book) (h : Counts) (L S D : List ℕ) : Type 0 where
  pub counts : B.counts ≡ h
  pub leaf : Leaves h B h.concepts L
  pub class_low : (d : ℕ) → Every (λ x. x < 256) (atomic_of (concept B d))
  pub classes_low : (d : ℕ) → Every (λ x. x < 256) (atomics (concept B d))
  pub values_low : (d : ℕ) → Every (λ (v : Value). (role_id v.role < 64) × (v.to < 512)) (values (concept B d))
  pub deep : (d y : ℕ) → d < h.concepts → y < no_slot → leaf_has_lem h.concepts L S D d y ≡ some (leaves (concept B d)) (λ e. eqb (slot_tree e) y)

-- all three of one value (src/deep.rt)
abbrev pub leaf_in : ℕ → ConceptTables → ℕ → ℕ → Bool
leaf_in n x d y = leaf_has_lem n x.leaves.now x.slots.now x.deep.now d y

abbrev pub ConceptsIn : Counts → ConceptTables → Type 0
ConceptsIn h x = Concepts h x.leaves.now x.slots.now x.deep.now

abbrev pub ConceptsSay : Book → Counts → ConceptTables → Type 0
ConceptsSay B h x = ConceptsOf B h x.leaves.now x.slots.now x.deep.now

-- of two of n individuals, whether their labels are equal
unfoldable pub told_same_lem : ℕ → List ℕ → ℕ → ℕ → Bool
told_same_lem n K i j = ltb i n && (ltb j n && eqb (get_or K i 0) (get_or K j 0))

-- or whether x is their joining
abbrev pub one_class_by : ℕ → List ℕ → ℕ → ℕ → ℕ → Bool
one_class_by n K i j x = told_same_lem n K i j || joins i j x

-- told-same labels K
pub record LabelsOf (B : Book) (h : Counts) (K : List ℕ) : Type 0 where
  pub labels : (i j : ℕ) → i < h.individuals → j < h.individuals → eqb (get_or K i 0) (get_or K j 0) ≡ same B i j

-- the pairs of classes that clash, P
pub record PairsOf (B : Book) (h : Counts) (P : List ℕ) : Type 0 where
  pub pairs : (a b : ℕ) → a < h.classes → b < h.classes → has P a b ≡ pair_clash B a b

-- entry k of the offsets T is where statement k starts
abbrev pub Starts : List ℕ → Counts → List Axiom → List ℕ → Type 0
Starts s h xs T = (k : ℕ) → k < length xs → (x : Statement) × (next : ℕ) × (turn_at_lem s h (get_or T k 0) ≡ Some (x, next)) × (member xs k ≡ x.body ∷ [])
