-- What a statement's rule joins (src/chain.rt).
use Rattle.std.specs.Prelude.{ℕ, ◌<◌, Bool}
use Rattle.book.specs.Role.{role_id, flipped}
use Rattle.book.specs.Book.{Book}
use Rattle.book.specs.declared.role.Role.{Role}
use Rattle.book.specs.declared.statement.SubRolePath.{SubRolePath}
use Rattle.book.specs.declared.statement.SubRolePath.TheVariants.{One, Two, Three}
use Rattle.book.specs.declared.statement.Axiom.{Axiom}
use Rattle.book.specs.declared.statement.Axiom.TheVariants.{SubClassOf, EquivalentClasses, DisjointClasses, InverseObjectProperties, SubObjectPropertyOf, TransitiveRole, SymmetricRole, FunctionalRole, InverseFunctionalRole, ObjectPropertyDomain, ObjectPropertyRange, SameIndividual, ClassAssertion, ObjectPropertyAssertion, DifferentIndividuals, NegativeObjectPropertyAssertion}
use Rattle.derivation.specs.declared.chain.Chain.{Chain}
use Rattle.derivation.specs.declared.rule.Triple as rule
use Rattle.derivation.specs.declared.chain.Chain.TheVariants.{Alone, Pair, Triple, Fillers}
use Rattle.derivation.specs.Fits.{two_fits_lem, three_fits_lem, join_fits_lem, fits}

abbrev pub path_chain_lem : SubRolePath → Role → Chain
path_chain_lem (One r) t = Alone
path_chain_lem (Two r s) t = Pair r s t
path_chain_lem (Three r s u) t = Triple r s u t

abbrev pub chain_of_lem : Axiom → Chain
chain_of_lem (SubClassOf c d) = Alone
chain_of_lem (EquivalentClasses c d) = Alone
chain_of_lem (DisjointClasses c d) = Alone
chain_of_lem (InverseObjectProperties r s) = Alone
chain_of_lem (SubObjectPropertyOf p t) = path_chain_lem p t
chain_of_lem (TransitiveRole r) = Pair r r r
chain_of_lem (SymmetricRole r) = Alone
chain_of_lem (FunctionalRole r) = Fillers r
chain_of_lem (InverseFunctionalRole r) = Fillers (flipped r)
chain_of_lem (ObjectPropertyDomain r c) = Alone
chain_of_lem (ObjectPropertyRange r c) = Alone
chain_of_lem (SameIndividual a b) = Alone
chain_of_lem (ClassAssertion c i) = Alone
chain_of_lem (ObjectPropertyAssertion r a b) = Alone
chain_of_lem (DifferentIndividuals a b) = Alone
chain_of_lem (NegativeObjectPropertyAssertion r a b) = Alone

-- the roles of a path of three are among 64
abbrev pub TripleLow : rule.Triple → Type 0
TripleLow x = (role_id x.first < 64) × (role_id x.second < 64) × (role_id x.third < 64) × (role_id x.above < 64)

-- its roles are among 64
abbrev pub ChainLow : Chain → Type 0
ChainLow Alone = Unit {0}
ChainLow (Pair r s t) = (role_id r < 64) × (role_id s < 64) × (role_id t < 64)
ChainLow (Triple r s u t) = (role_id r < 64) × (role_id s < 64) × (role_id u < 64) × (role_id t < 64)
ChainLow (Fillers r) = role_id r < 64

-- one use of the statement by what it joins; where that is nothing, the second and third premise are not looked at
abbrev pub chain_fits_lem : Book → Axiom → Chain → ℕ → ℕ → ℕ → ℕ → Bool
chain_fits_lem B x Alone f g h k = fits B x f g g g
chain_fits_lem B x (Pair r s t) f g h k = two_fits_lem B.counts.individuals r s t f g h
chain_fits_lem B x (Triple r s u t) f g h k = three_fits_lem B.counts.individuals r s u t f g h k
chain_fits_lem B x (Fillers r) f g h k = join_fits_lem B.counts.individuals r f g h
