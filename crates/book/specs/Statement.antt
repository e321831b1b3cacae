-- Statement records.
use Rattle.std.specs.Prelude.{ℕ, ◌*◌, ◌%◌, List, [], ◌∷◌, ◌++◌, not, get_or, replicate, ltb, leb, eqb}
use Rattle.book.specs.declared.header.Counts.{Counts}
use Rattle.book.specs.declared.statement.Head.{Head}
use Rattle.book.specs.declared.statement.SubRolePath.{SubRolePath}
use Rattle.book.specs.declared.statement.SubRolePath.TheVariants.{One, Two, Three}
use Rattle.book.specs.declared.statement.Axiom.{Axiom}
use Rattle.book.specs.declared.statement.Axiom.TheVariants.{SubClassOf, EquivalentClasses, DisjointClasses, InverseObjectProperties, SubObjectPropertyOf, TransitiveRole, SymmetricRole, FunctionalRole, InverseFunctionalRole, ObjectPropertyDomain, ObjectPropertyRange, SameIndividual, ClassAssertion, ObjectPropertyAssertion, DifferentIndividuals, NegativeObjectPropertyAssertion}
use Rattle.book.specs.declared.statement.Statement.{Statement}
use Rattle.book.specs.declared.role.Role.{Role}
use Rattle.book.specs.Role.{role_of_lem}
use Rattle.book.specs.Read.{pick, Read, value, onward, Parser, ◌>>=◌, ◌>>◌, give, unless}
use Rattle.book.specs.Field.{byte, two_bytes_lem, fields}
use Rattle.book.specs.Table.{Start, statement_code, statement_allows_lem}

-- A kind and its map: refusal 7 for an unknown kind, before its map is due, and 8 for a map that is not one of the kind's. Bits 8 to 10 may
-- stand with every map of every kind: the bits below them are held against the kind's table, and none may stand above.
unfoldable pub statement_start_lem : Parser Start
statement_start_lem = do
  kind ← byte
  unless (not (eqb kind 0)) 7
  unless (ltb kind 17) 7
  map ← two_bytes_lem
  unless (ltb map 2048) 8
  unless (statement_allows_lem kind (map % 256)) 8
  give (record { kind = kind; map = map })

-- what a reading of a kind and a map gives
abbrev pub statement_head : Head → Start
statement_head x = record { kind = statement_code x.kind; map = x.map }

abbrev pub headed : Read Head → Read Start
headed r = onward r λ x next. value (statement_head x) next

-- bits 0 to 3 are roles, 4 and 5 concepts, 6 and 7 individuals, 8 is a source, 9 and 10 are a first and a last day
abbrev pub statement_limits : Counts → List ℕ
statement_limits h =
    2 * h.roles
    ∷ 2 * h.roles
    ∷ 2 * h.roles
    ∷ 2 * h.roles
    ∷ h.concepts
    ∷ h.concepts
    ∷ h.individuals
    ∷ h.individuals
    ∷ 1024
    ∷ 65536
    ∷ 65536
    ∷ replicate 5 0

-- No source is 0, the shared book; no first day is day 0, and no last day 65,535. A kind's own fields have no value that stands for an absent one.
abbrev pub unmarked : List ℕ
unmarked = replicate 8 65536 ++ (0 ∷ 0 ∷ 65535 ∷ replicate 5 65536)

-- the path of a SubObjectPropertyOf, whose super-role stands at bit 3
unfoldable pub path_of_lem : ℕ → Role → Role → Role → SubRolePath
path_of_lem map r s t = pick (eqb map 0x09) (One r) (pick (eqb map 0x0B) (Two r s) (Three r s t))

-- the fields by their bits
abbrev pub role_field : List ℕ → ℕ → Role
role_field v bit = role_of_lem (get_or v bit 0)

abbrev pub denial : List ℕ → Axiom
denial v = NegativeObjectPropertyAssertion (role_field v 0) (get_or v 6 0) (get_or v 7 0)

-- the kinds 1 to 15 in their order (there is no kind 0); 16 is NegativeObjectPropertyAssertion
abbrev pub axiom_kinds : ℕ → List ℕ → List Axiom
axiom_kinds map v =
    let r = role_field v 0 in
    let s = role_field v 1 in
    let t = role_field v 2 in
    let u = role_field v 3 in
    let c = get_or v 4 0 in
    let d = get_or v 5 0 in
    let i = get_or v 6 0 in
    let j = get_or v 7 0 in
    denial v
    ∷ SubClassOf c d
    ∷ EquivalentClasses c d
    ∷ DisjointClasses c d
    ∷ InverseObjectProperties r s
    ∷ SubObjectPropertyOf (path_of_lem map r s t) u
    ∷ TransitiveRole r
    ∷ SymmetricRole r
    ∷ FunctionalRole r
    ∷ InverseFunctionalRole r
    ∷ ObjectPropertyDomain r c
    ∷ ObjectPropertyRange r c
    ∷ SameIndividual i j
    ∷ ClassAssertion c i
    ∷ ObjectPropertyAssertion r i j
    ∷ DifferentIndividuals i j
    ∷ []

unfoldable pub axiom_of_lem : Start → List ℕ → Axiom
axiom_of_lem start v = get_or (axiom_kinds (start.map % 256) v) start.kind (denial v)

-- the whole record: what it says, whose statement it was, and its period
abbrev pub statement_of_lem : Start → List ℕ → Statement
statement_of_lem start v = record { body = axiom_of_lem start v; source = get_or v 8 0; first = get_or v 9 0; last = get_or v 10 0 }

-- a record without source and days: of the shared book, in force every day
abbrev pub bare : Axiom → Statement
bare a = record { body = a; source = 0; first = 0; last = 65535 }

-- once all fields are read: refusal 16 for a last day before the first. Where one of them is absent there is none.
unfoldable pub statement_end_lem : Start → List ℕ → Parser Statement
statement_end_lem start v = do
  unless (leb (get_or v 9 0) (get_or v 10 0)) 16
  give (statement_of_lem start v)

-- from the first field on: each field is complete (4), then not the value of an absent one (5), then in range (9)
unfoldable pub statement_rest_lem : Counts → Start → Parser Statement
statement_rest_lem h start = fields start.map (statement_limits h) unmarked 9 >>= statement_end_lem start

unfoldable pub statement : Counts → Parser Statement
statement h = statement_start_lem >>= statement_rest_lem h

-- what the statements say
abbrev pub bodies : List Statement → List Axiom
bodies [] = []
bodies (x ∷ xs) = x.body ∷ bodies xs
