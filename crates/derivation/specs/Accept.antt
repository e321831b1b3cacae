-- When a row is accepted, and how many stand.
use Rattle.std.specs.Prelude.{ℕ, zero, suc, ◌/◌, Bool, false, ◌&&◌, ◌||◌, List, [], ◌∷◌, length, eqb, ltb}
use Rattle.book.specs.Read.{pick}
use Rattle.book.specs.Role.{flipped}
use Rattle.book.specs.Book.{Book, axioms, decode}
use Rattle.book.specs.declared.role.Role.{Role}
use Rattle.book.specs.declared.role.Role.TheVariants.{Named}
use Rattle.book.specs.declared.statement.Axiom.{Axiom}
use Rattle.book.specs.declared.statement.Axiom.TheVariants.{SubClassOf, EquivalentClasses, DisjointClasses, InverseObjectProperties, SubObjectPropertyOf, TransitiveRole, SymmetricRole, FunctionalRole, InverseFunctionalRole, ObjectPropertyDomain, ObjectPropertyRange, SameIndividual, ClassAssertion, ObjectPropertyAssertion, DifferentIndividuals, NegativeObjectPropertyAssertion}
use Rattle.rules.specs.Fact.{edge, type, pair}
use Rattle.rules.specs.Rule.{Set, Rule, keep, when, each, both, given, some, yields}
use Rattle.rules.specs.ToldSame.{same}
use Rattle.rules.specs.Meaning.{rule_of}
use Rattle.rules.specs.Clash.{by_types}
use Rattle.rules.specs.Ends.{on_decoded}
use Rattle.derivation.specs.declared.row.Row.{Row}
use Rattle.derivation.specs.Rows.{none, row_at, Claim, fact, clash, nothing, claim, named, earlier}

-- what the statements of a book say, in order
abbrev pub statements : Book → List Axiom
statements B = axioms B

-- the rule of 01 by which a statement acts; disjoint statements and those that deny act through rule 8 alone, told-same ones through rule 6
abbrev pub rule_number_lem : Axiom → ℕ
rule_number_lem (SubClassOf c d) = 2
rule_number_lem (EquivalentClasses c d) = 2
rule_number_lem (DisjointClasses c d) = 8
rule_number_lem (InverseObjectProperties r s) = 3
rule_number_lem (SubObjectPropertyOf p t) = 4
rule_number_lem (TransitiveRole r) = 4
rule_number_lem (SymmetricRole r) = 3
rule_number_lem (FunctionalRole r) = 7
rule_number_lem (InverseFunctionalRole r) = 7
rule_number_lem (ObjectPropertyDomain r c) = 5
rule_number_lem (ObjectPropertyRange r c) = 5
rule_number_lem (SameIndividual a b) = 6
rule_number_lem (ClassAssertion c i) = 1
rule_number_lem (ObjectPropertyAssertion r a b) = 1
rule_number_lem (DifferentIndividuals a b) = 8
rule_number_lem (NegativeObjectPropertyAssertion r a b) = 8

-- Rule 7, over n individuals: two different fillers of one subject under r are joined, the lower number first.
abbrev pub join_other : ℕ → Role → Rule
join_other n r = each n λ a. each n λ b. when (edge r a b) (each n λ c. when (edge r a c) (given (ltb b c) (keep (pair b c))))

-- One use of a statement's rule. It is that of the smallest sets, but for rule 7, which joins two fillers that differ, the lower number first, as a joining
-- row has its numbers; and told-same statements give no row: told classes are known.
abbrev pub use_of : Book → Axiom → Rule
use_of B (SubClassOf c d) = rule_of B (SubClassOf c d)
use_of B (EquivalentClasses c d) = rule_of B (EquivalentClasses c d)
use_of B (DisjointClasses c d) = rule_of B (DisjointClasses c d)
use_of B (InverseObjectProperties r s) = rule_of B (InverseObjectProperties r s)
use_of B (SubObjectPropertyOf p t) = rule_of B (SubObjectPropertyOf p t)
use_of B (TransitiveRole r) = rule_of B (TransitiveRole r)
use_of B (SymmetricRole r) = rule_of B (SymmetricRole r)
use_of B (FunctionalRole r) = join_other B.counts.individuals r
use_of B (InverseFunctionalRole r) = join_other B.counts.individuals (flipped r)
use_of B (ObjectPropertyDomain r c) = rule_of B (ObjectPropertyDomain r c)
use_of B (ObjectPropertyRange r c) = rule_of B (ObjectPropertyRange r c)
use_of B (SameIndividual a b) = each 0 keep
use_of B (ClassAssertion c i) = rule_of B (ClassAssertion c i)
use_of B (ObjectPropertyAssertion r a b) = rule_of B (ObjectPropertyAssertion r a b)
use_of B (DifferentIndividuals a b) = rule_of B (DifferentIndividuals a b)
use_of B (NegativeObjectPropertyAssertion r a b) = rule_of B (NegativeObjectPropertyAssertion r a b)

-- member k of a list, if there is one
abbrev pub member : {A : Type 0} → List A → ℕ → List A
member [] k = []
member (x ∷ xs) zero = x ∷ []
member (x ∷ xs) (suc k) = member xs k

-- whether the fact f follows from the facts P by one use of the rule of a number and a statement
abbrev pub by_axiom : Book → ℕ → Set → ℕ → Axiom → Bool
by_axiom B n P f s = eqb (rule_number_lem s) n && yields (use_of B s) P f

-- rules 1 to 5 and 7: by the statement that the row names, from the facts P of the rows that it names
unfoldable pub by_statement_lem : Book → Row → Set → ℕ → Bool
by_statement_lem B r P f = some (member (statements B) r.statement) (by_axiom B r.rule P f)

-- i is changed to j: inside one told class for nothing (an individual is in its own), and else by the joining row of the two
abbrev pub across : Book → ℕ → ℕ → Rule → Rule
across B i j R = both (given (same B i j) R) (both (when (pair i j) R) (when (pair j i) R))

-- rule 6, both ends at once
abbrev pub sharing_both : Book → Rule
sharing_both B =
    both (each B.counts.individuals λ i. each B.counts.individuals λ j. across B i j
    (each B.counts.classes λ c. when (type i c) (keep (type j c))))
    (each B.counts.individuals λ i. each B.counts.individuals λ j. across B i j
    (each B.counts.individuals λ a. each B.counts.individuals λ b. across B a b
    (each B.counts.roles λ r. when (edge (Named r) i a) (keep (edge (Named r) j b)))))

-- rule 6 names no statement: the told classes are known, and what is found has its rows
unfoldable pub by_sharing_lem : Book → Row → Set → ℕ → Bool
by_sharing_lem B r P f = eqb r.rule 6 && (eqb r.statement none && yields (sharing_both B) P f)

-- what a statement denies is known or among the facts P: two of one told class (an individual is in its own), or joined by a row, whichever number is the
-- lower; an edge
abbrev pub denies_one : Book → Set → Axiom → Bool
denies_one B P (SubClassOf c d) = false
denies_one B P (EquivalentClasses c d) = false
denies_one B P (DisjointClasses c d) = false
denies_one B P (InverseObjectProperties r s) = false
denies_one B P (SubObjectPropertyOf p t) = false
denies_one B P (TransitiveRole r) = false
denies_one B P (SymmetricRole r) = false
denies_one B P (FunctionalRole r) = false
denies_one B P (InverseFunctionalRole r) = false
denies_one B P (ObjectPropertyDomain r c) = false
denies_one B P (ObjectPropertyRange r c) = false
denies_one B P (SameIndividual a b) = false
denies_one B P (ClassAssertion c i) = false
denies_one B P (ObjectPropertyAssertion r a b) = false
denies_one B P (DifferentIndividuals a b) = same B a b || (P (pair a b) || P (pair b a))
denies_one B P (NegativeObjectPropertyAssertion r a b) = P (edge r a b)

unfoldable pub denies : Book → Set → Bool
denies B P = some (statements B) (denies_one B P)

-- rule 8 names a statement of the book or none, and all of them are known: types clash, or a statement denies
unfoldable pub by_clash_lem : Book → Row → Set → Bool
by_clash_lem B r P = eqb r.rule 8 && ((eqb r.statement none || ltb r.statement (length (statements B))) && (by_types B P || denies B P))

-- what a row claims follows from the facts P of the rows that it names
abbrev pub follows : Book → Row → Set → Claim → Bool
follows B r P (fact f) = by_statement_lem B r P f || by_sharing_lem B r P f
follows B r P clash = by_clash_lem B r P
follows B r P nothing = false

-- what row k of a list claims
abbrev pub claim_at : Book → List ℕ → ℕ → Claim
claim_at B l k = claim B.counts (row_at l k)

-- row k of a list is accepted, where those before it are
unfoldable pub accepts : Book → List ℕ → ℕ → Bool
accepts B l k = let r = row_at l k in earlier k r && follows B r (named B.counts l r) (claim_at B l k)

-- of the first n rows, how many stand before the first that is not accepted
unfoldable pub standing : Book → List ℕ → ℕ → ℕ
standing B l zero = zero
standing B l (suc n) = let k = standing B l n in pick (eqb k n && accepts B l n) (suc n) k

-- of all rows of a list; an incomplete row is none
unfoldable pub stands : Book → List ℕ → ℕ
stands B l = standing B l (length l / 9)

-- what the checker returns: how many rows stand before the first that is not accepted, or the book's refusal
pub data Judged : Type 0 where
  stand_rows : ℕ → Judged
  faulty_book : ℕ → Judged

unfoldable pub judged : List ℕ → List ℕ → Judged
judged s l = on_decoded (decode s) faulty_book λ B. stand_rows (stands B l)
