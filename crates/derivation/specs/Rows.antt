-- Rows: nine numbers each, one after the other in a list.
use Rattle.std.specs.Prelude.{ℕ, ◌+◌, ◌*◌, Bool, false, ◌&&◌, ◌||◌, List, get_or, eqb, ltb}
use Rattle.book.specs.Read.{pick}
use Rattle.book.specs.declared.header.Counts.{Counts}
use Rattle.book.specs.declared.role.Role.TheVariants.{Named}
use Rattle.rules.specs.Fact.{edge, type, pair}
use Rattle.rules.specs.Rule.{Set}
use Rattle.derivation.specs.declared.row.Row.{Row}
use Rattle.derivation.specs.declared.row.Premises.{Premises}

-- 2³² − 1, where there is none
abbrev pub none : ℕ
none = 4294967295

-- row k of a list
unfoldable pub row_at : List ℕ → ℕ → Row
row_at l k =
    record {
      rule = get_or l (9 * k) 0;
      statement = get_or l (9 * k + 1) 0;
      first = get_or l (9 * k + 2) 0;
      second = get_or l (9 * k + 3) 0;
      third = get_or l (9 * k + 4) 0;
      kind = get_or l (9 * k + 5) 0;
      one = get_or l (9 * k + 6) 0;
      two = get_or l (9 * k + 7) 0;
      three = get_or l (9 * k + 8) 0;
    }

-- what a row claims: a fact, a clash, or nothing, where it is not laid out as a row
pub data Claim : Type 0 where
  fact : ℕ → Claim
  clash : Claim
  nothing : Claim

-- a type (kind 0) has an individual and a class, an edge (1) a role and two individuals, a clash (2) none, a joining (3) two individuals, the lower
-- number first; over the book's own numbers, and none in every unused place
abbrev pub type_claim_lem : Counts → Row → Claim
type_claim_lem h r = pick (ltb r.one h.individuals && (ltb r.two h.classes && eqb r.three none)) (fact (type r.one r.two)) nothing

abbrev pub edge_claim_lem : Counts → Row → Claim
edge_claim_lem h r =
    pick (ltb r.one h.roles && (ltb r.two h.individuals && ltb r.three h.individuals)) (fact (edge (Named r.one) r.two r.three)) nothing

abbrev pub clash_claim_lem : Row → Claim
clash_claim_lem r = pick (eqb r.one none && (eqb r.two none && eqb r.three none)) clash nothing

abbrev pub pair_claim_lem : Counts → Row → Claim
pair_claim_lem h r = pick (ltb r.one r.two && (ltb r.two h.individuals && eqb r.three none)) (fact (pair r.one r.two)) nothing

unfoldable pub claim : Counts → Row → Claim
claim h r =
    pick (eqb r.kind 0) (type_claim_lem h r)
    (pick (eqb r.kind 1) (edge_claim_lem h r)
    (pick (eqb r.kind 2) (clash_claim_lem r)
    (pick (eqb r.kind 3) (pair_claim_lem h r)
    nothing)))

-- what an earlier row adds to the facts: its own, if it claims one
abbrev pub says : Claim → Set
says (fact g) f = eqb f g
says clash f = false
says nothing f = false

-- a number that names none, or row x of the list
abbrev pub says_row : Counts → List ℕ → ℕ → Claim
says_row h l x = pick (eqb x none) nothing (claim h (row_at l x))

abbrev pub one_of : Claim → Claim → Claim → Set
one_of a b c f = says a f || (says b f || says c f)

-- the facts of the rows that a row names
unfoldable pub named : Counts → List ℕ → Row → Set
named h l r = one_of (says_row h l r.first) (says_row h l r.second) (says_row h l r.third)

-- row k may name an earlier row, or none
abbrev pub before : ℕ → ℕ → Bool
before k x = eqb x none || ltb x k

unfoldable pub earlier : ℕ → Row → Bool
earlier k r = before k r.first && (before k r.second && before k r.third)

-- the fact that is claimed, as a number; none where there is no fact
abbrev pub fact_in : Claim → ℕ
fact_in (fact g) = g
fact_in clash = none
fact_in nothing = none

-- what is claimed as a number: a fact's own; 2³² − 2 for a clash; none
abbrev pub number_of : Claim → ℕ
number_of (fact g) = g
number_of clash = 4294967294
number_of nothing = none

-- the facts of the rows that a row names, as numbers
unfoldable pub premises_of : Counts → List ℕ → Row → Premises
premises_of h l r = record { one = fact_in (says_row h l r.first); two = fact_in (says_row h l r.second); three = fact_in (says_row h l r.third) }
