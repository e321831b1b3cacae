-- A statement record by its bytes: a kind, a map of two bytes, and its numbers, one behind the other, source and days last. The kind says what they are; of a
-- path the map's low byte says how many. An accepted record is read so (proofs/Records.antt).
use Rattle.std.specs.Prelude.{ℕ, ◌+◌, ◌*◌, ◌/◌, ◌%◌, ◌<◌, ◌≤◌, List, [], ◌∷◌, length, get_or, eqb, ltb}
use Rattle.book.specs.Read.{pick}
use Rattle.book.specs.Role.{role_id, role_of_lem}
use Rattle.book.specs.Field.{number_at_lem}
use Rattle.book.specs.Within.{Within}
use Rattle.book.specs.declared.header.Counts.{Counts}
use Rattle.book.specs.declared.statement.SubRolePath.TheVariants.{One, Two, Three}
use Rattle.book.specs.declared.statement.Axiom.{Axiom}
use Rattle.book.specs.declared.statement.Axiom.TheVariants.{SubClassOf, EquivalentClasses, DisjointClasses, InverseObjectProperties, SubObjectPropertyOf, TransitiveRole, SymmetricRole, FunctionalRole, InverseFunctionalRole, ObjectPropertyDomain, ObjectPropertyRange, SameIndividual, ClassAssertion, ObjectPropertyAssertion, DifferentIndividuals, NegativeObjectPropertyAssertion}

-- a path of one, two or three roles, and the role above it
abbrev pub path_said : ℕ → ℕ → ℕ → ℕ → ℕ → Axiom
path_said low a b c d =
    pick (eqb low 0x09) (SubObjectPropertyOf (One (role_of_lem a)) (role_of_lem b))
    (pick (eqb low 0x0B) (SubObjectPropertyOf (Two (role_of_lem a) (role_of_lem b)) (role_of_lem c)) (SubObjectPropertyOf (Three (role_of_lem a) (role_of_lem b) (role_of_lem c)) (role_of_lem d)))

abbrev pub path_numbers_lem : ℕ → ℕ
path_numbers_lem low = pick (eqb low 0x09) 2 (pick (eqb low 0x0B) 3 4)

-- how many numbers a statement has, source and days apart
abbrev pub numbers_of_lem : ℕ → ℕ → ℕ
numbers_of_lem kind low = pick (eqb kind 5) (path_numbers_lem low) (pick (eqb kind 14) 3 (pick (eqb kind 16) 3 (pick (ltb kind 6) 2 (pick (ltb kind 10) 1 2))))

-- how many of source and days a map tells: its bits 8, 9 and 10
abbrev pub marks_of_lem : ℕ → ℕ
marks_of_lem map = map / 256 % 2 + map / 512 % 2 + map / 1024

-- the kinds 1 to 16 in their order; there is none besides, and in the place of each other one stands a statement that brings no class and no role
abbrev pub said_kinds : ℕ → ℕ → ℕ → ℕ → ℕ → List Axiom
said_kinds low a b c d =
    SameIndividual a b
    ∷ SubClassOf a b
    ∷ EquivalentClasses a b
    ∷ DisjointClasses a b
    ∷ InverseObjectProperties (role_of_lem a) (role_of_lem b)
    ∷ path_said low a b c d
    ∷ TransitiveRole (role_of_lem a)
    ∷ SymmetricRole (role_of_lem a)
    ∷ FunctionalRole (role_of_lem a)
    ∷ InverseFunctionalRole (role_of_lem a)
    ∷ ObjectPropertyDomain (role_of_lem a) b
    ∷ ObjectPropertyRange (role_of_lem a) b
    ∷ SameIndividual a b
    ∷ ClassAssertion a b
    ∷ ObjectPropertyAssertion (role_of_lem a) b c
    ∷ DifferentIndividuals a b
    ∷ NegativeObjectPropertyAssertion (role_of_lem a) b c
    ∷ []

unfoldable pub said : ℕ → ℕ → ℕ → ℕ → ℕ → ℕ → Axiom
said kind low a b c d = get_or (said_kinds low a b c d) kind (SameIndividual a b)

-- the low byte of the map of the record at `at`
abbrev pub low_at : List ℕ → ℕ → ℕ
low_at s at = number_at_lem s (at + 1) % 256

-- what the record says
unfoldable pub said_at : List ℕ → ℕ → Axiom
said_at s at = said (get_or s at 0) (low_at s at) (number_at_lem s (at + 3)) (number_at_lem s (at + 5)) (number_at_lem s (at + 7)) (number_at_lem s (at + 9))

-- where the next one starts
unfoldable pub next_at : List ℕ → ℕ → ℕ
next_at s at = at + 3 + 2 * numbers_of_lem (get_or s at 0) (low_at s at) + 2 * marks_of_lem (number_at_lem s (at + 1))

-- a record that is whole, and whose numbers are in range
pub record Plain (s : List ℕ) (h : Counts) (at : ℕ) : Type 0 where
  pub within : Within h (said_at s at)
  pub inside : next_at s at ≤ length s

-- the field of a role stands at a place
pub record RoleAt (s : List ℕ) (place : ℕ) : Type 0 where
  pub inside : place + 2 ≤ length s
  pub low : role_id (role_of_lem (number_at_lem s place)) < 64
