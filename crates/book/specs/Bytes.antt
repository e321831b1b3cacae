-- Records as bytes. The readers read them back, and of bytes they accept nothing else (proofs/Bytes).
use Rattle.std.specs.Prelude.{ℕ, zero, suc, ◌+◌, ◌*◌, ◌/◌, ◌%◌, ◌<◌, ◌≡◌, Bool, true, false, ◌&&◌, List, [], ◌∷◌, ◌++◌, length, get_or, replicate, set, eqb}
use Rattle.book.specs.declared.header.Counts.{Counts}
use Rattle.book.specs.declared.statement.SubRolePath.{SubRolePath}
use Rattle.book.specs.declared.statement.SubRolePath.TheVariants.{One, Two, Three}
use Rattle.book.specs.declared.statement.Axiom.{Axiom}
use Rattle.book.specs.declared.statement.Axiom.TheVariants.{SubClassOf, EquivalentClasses, DisjointClasses, InverseObjectProperties, SubObjectPropertyOf, TransitiveRole, SymmetricRole, FunctionalRole, InverseFunctionalRole, ObjectPropertyDomain, ObjectPropertyRange, SameIndividual, ClassAssertion, ObjectPropertyAssertion, DifferentIndividuals, NegativeObjectPropertyAssertion}
use Rattle.book.specs.declared.statement.Statement.{Statement}
use Rattle.book.specs.declared.role.Role.{Role}
use Rattle.book.specs.Read.{pick}
use Rattle.book.specs.Role.{field_of_lem}

-- every entry is a byte
abbrev pub Bytes : List ℕ → Type 0
Bytes s = (i : ℕ) → i < length s → get_or s i 0 < 256

-- the entries l stand in s from an offset on
abbrev pub Has : List ℕ → ℕ → List ℕ → Type 0
Has s at [] = Unit {0}
Has s at (b ∷ l) = (at < length s) × (get_or s at 0 ≡ b) × Has s (at + 1) l

-- a number as two bytes
abbrev pub two_of : ℕ → List ℕ
two_of n = n % 256 ∷ n / 256 ∷ []

-- a place of a record: its field is absent, or has a number
pub data Place : Type 0 where
  gap : Place
  put : ℕ → Place

-- the map of some places, lowest bit first
abbrev pub map_of : List Place → ℕ
map_of [] = 0
map_of (gap ∷ ps) = 2 * map_of ps
map_of (put v ∷ ps) = 2 * map_of ps + 1

-- and the bytes of their fields
abbrev pub bytes_of : List Place → List ℕ
bytes_of [] = []
bytes_of (gap ∷ ps) = bytes_of ps
bytes_of (put v ∷ ps) = v % 256 ∷ v / 256 ∷ bytes_of ps

-- a field with a value for an absent one, which is never written
abbrev pub mark : ℕ → ℕ → Place
mark absent v = pick (eqb v absent) gap (put v)

-- the header: an absent count is 0, and no count is written as 0
abbrev pub count : ℕ → Place
count c = mark 0 c

abbrev pub count_places : Counts → List Place
count_places h = count h.classes ∷ count h.roles ∷ count h.individuals ∷ count h.concepts ∷ count h.statements ∷ replicate 11 gap

unfoldable pub header_bytes : Counts → List ℕ
header_bytes h = map_of (count_places h) ∷ bytes_of (count_places h)

-- a statement: its kind, and its fields from bit 0 on
pub record Form : Type 0 where
  pub kind : ℕ
  pub places : List Place

abbrev pub form : ℕ → List Place → Form
form k ps = record { kind = k; places = ps }

abbrev pub role : Role → Place
role r = put (field_of_lem r)

-- two concepts, bits 4 and 5
abbrev pub concepts : ℕ → ℕ → List Place
concepts c d = gap ∷ gap ∷ gap ∷ gap ∷ put c ∷ put d ∷ []

abbrev pub path_places : SubRolePath → Role → List Place
path_places (One r) t = role r ∷ gap ∷ gap ∷ role t ∷ []
path_places (Two r s) t = role r ∷ role s ∷ gap ∷ role t ∷ []
path_places (Three r s u) t = role r ∷ role s ∷ role u ∷ role t ∷ []

abbrev pub form_of : Axiom → Form
form_of (SubClassOf c d) = form 1 (concepts c d)
form_of (EquivalentClasses c d) = form 2 (concepts c d)
form_of (DisjointClasses c d) = form 3 (concepts c d)
form_of (InverseObjectProperties r s) = form 4 (role r ∷ role s ∷ [])
form_of (SubObjectPropertyOf p t) = form 5 (path_places p t)
form_of (TransitiveRole r) = form 6 (role r ∷ [])
form_of (SymmetricRole r) = form 7 (role r ∷ [])
form_of (FunctionalRole r) = form 8 (role r ∷ [])
form_of (InverseFunctionalRole r) = form 9 (role r ∷ [])
form_of (ObjectPropertyDomain r c) = form 10 (role r ∷ gap ∷ gap ∷ gap ∷ put c ∷ [])
form_of (ObjectPropertyRange r c) = form 11 (role r ∷ gap ∷ gap ∷ gap ∷ put c ∷ [])
form_of (SameIndividual i j) = form 12 (gap ∷ gap ∷ gap ∷ gap ∷ gap ∷ gap ∷ put i ∷ put j ∷ [])
form_of (ClassAssertion c i) = form 13 (gap ∷ gap ∷ gap ∷ gap ∷ put c ∷ gap ∷ put i ∷ [])
form_of (ObjectPropertyAssertion r i j) = form 14 (role r ∷ gap ∷ gap ∷ gap ∷ gap ∷ gap ∷ put i ∷ put j ∷ [])
form_of (DifferentIndividuals i j) = form 15 (gap ∷ gap ∷ gap ∷ gap ∷ gap ∷ gap ∷ put i ∷ put j ∷ [])
form_of (NegativeObjectPropertyAssertion r i j) = form 16 (role r ∷ gap ∷ gap ∷ gap ∷ gap ∷ gap ∷ put i ∷ put j ∷ [])

-- bit 8 on: the source, the first and the last day
abbrev pub marks : Statement → List Place
marks x = mark 0 x.source ∷ mark 0 x.first ∷ mark 65535 x.last ∷ []

-- n places, gaps behind those that there are
abbrev pub padded : ℕ → List Place → List Place
padded zero ps = ps
padded (suc n) [] = gap ∷ padded n []
padded (suc n) (p ∷ ps) = p ∷ padded n ps

-- the whole record: the places of what it says are those of bits 0 to 7
abbrev pub whole_of : Statement → Form
whole_of x = form (form_of x.body).kind (padded 8 (form_of x.body).places ++ marks x)

abbrev pub form_bytes : Form → List ℕ
form_bytes f = f.kind ∷ map_of f.places % 256 ∷ map_of f.places / 256 ∷ bytes_of f.places

unfoldable pub statement_bytes : Statement → List ℕ
statement_bytes x = form_bytes (whole_of x)

-- one after the other
unfoldable pub statements_bytes : List Statement → List ℕ
statements_bytes [] = []
statements_bytes (x ∷ xs) = statement_bytes x ++ statements_bytes xs

-- a repeat: the same kind, and the same numbers in the same places, source and days among them
abbrev pub same_place : Place → Place → Bool
same_place gap gap = true
same_place gap (put w) = false
same_place (put v) gap = false
same_place (put v) (put w) = eqb v w

abbrev pub same_places : List Place → List Place → Bool
same_places [] [] = true
same_places [] (q ∷ qs) = false
same_places (p ∷ ps) [] = false
same_places (p ∷ ps) (q ∷ qs) = same_place p q && same_places ps qs

unfoldable pub repeats : Statement → Statement → Bool
repeats x y = eqb (whole_of x).kind (whole_of y).kind && same_places (whole_of x).places (whole_of y).places

-- what the places put into a record's values, from bit k on
abbrev pub fill : ℕ → List Place → List ℕ → List ℕ
fill k [] values = values
fill k (gap ∷ ps) values = fill (k + 1) ps values
fill k (put v ∷ ps) values = fill (k + 1) ps (set values k v)

-- the places of n bits of a map, from bit k on
abbrev pub places_of : ℕ → ℕ → ℕ → List ℕ → List Place
places_of zero k map w = []
places_of (suc n) k map w = pick (eqb (map % 2) 0) gap (put (get_or w k 0)) ∷ places_of n (k + 1) (map / 2) w
