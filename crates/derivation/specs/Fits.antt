-- One use of a statement's rule by numbers alone: whether the fact f follows from the premises g, h and k, taken in the order in which the rule asks for
-- them. Those that a rule does not need are not looked at.
use Rattle.std.specs.Prelude.{ℕ, ◌/◌, ◌%◌, ◌<◌, Bool, false, not, ◌&&◌, ◌||◌, eqb, ltb}
use Rattle.book.specs.Role.{role_id, flipped}
use Rattle.book.specs.Tree.{Concept}
use Rattle.book.specs.Book.{Book}
use Rattle.book.specs.declared.header.Counts.{Counts}
use Rattle.book.specs.declared.role.Role.{Role}
use Rattle.book.specs.declared.role.Role.TheVariants.{Named, Inverse}
use Rattle.book.specs.declared.statement.SubRolePath.{SubRolePath}
use Rattle.book.specs.declared.statement.SubRolePath.TheVariants.{One, Two, Three}
use Rattle.book.specs.declared.statement.Axiom.{Axiom}
use Rattle.book.specs.declared.statement.Axiom.TheVariants.{SubClassOf, EquivalentClasses, DisjointClasses, InverseObjectProperties, SubObjectPropertyOf, TransitiveRole, SymmetricRole, FunctionalRole, InverseFunctionalRole, ObjectPropertyDomain, ObjectPropertyRange, SameIndividual, ClassAssertion, ObjectPropertyAssertion, DifferentIndividuals, NegativeObjectPropertyAssertion}
use Rattle.rules.specs.Fact.{edge, type, pair, Two as Pair}
use Rattle.rules.specs.Rule.{some}
use Rattle.rules.specs.Brought.{concept, atomic_of, atomics, values}
use Rattle.rules.specs.ToldSame.{same}
use Rattle.rules.specs.Same.{functional}
use Rattle.rules.specs.Clash.{disjoint, marks}

-- the individuals that an edge of a role leads from and to; the individual and the class of a type
abbrev pub leads_from_lem : Role → ℕ → ℕ
leads_from_lem (Named r) g = g / 512 % 512
leads_from_lem (Inverse r) g = g % 512

abbrev pub leads_to_lem : Role → ℕ → ℕ
leads_to_lem (Named r) g = g % 512
leads_to_lem (Inverse r) g = g / 512 % 512

abbrev pub bearer : ℕ → ℕ
bearer g = g / 256 % 512

abbrev pub class_in_lem : ℕ → ℕ
class_in_lem g = g % 256

-- whether g is an edge of a role between two of n individuals
unfoldable pub is_edge_lem : ℕ → Role → ℕ → Bool
is_edge_lem n r g = ltb (leads_from_lem r g) n && (ltb (leads_to_lem r g) n && eqb g (edge r (leads_from_lem r g) (leads_to_lem r g)))

-- f is a type of i with an Atomic of a concept, or an edge of i by a has-value of it
unfoldable pub class_fits_lem : Concept → ℕ → ℕ → Bool
class_fits_lem e i f = some (atomics e) (λ c. eqb f (type i c))

unfoldable pub value_fits_lem : Concept → ℕ → ℕ → Bool
value_fits_lem e i f = some (values e) (λ v. eqb f (edge v.role i v.to))

-- rule 1, and what rule 2 brings to the individual i
unfoldable pub told_fits_lem : Concept → ℕ → ℕ → Bool
told_fits_lem e i f = class_fits_lem e i f || value_fits_lem e i f

-- rule 2: g is a type of the left side's class
unfoldable pub bring_fits_lem : ℕ → Concept → Concept → ℕ → ℕ → Bool
bring_fits_lem n left right f g = ltb (bearer g) n && (some (atomic_of left) (λ c. eqb g (type (bearer g) c)) && told_fits_lem right (bearer g) f)

-- rule 3
unfoldable pub swap_fits_lem : ℕ → Role → Role → ℕ → ℕ → Bool
swap_fits_lem n r s f g = is_edge_lem n r g && eqb f (edge s (leads_to_lem r g) (leads_from_lem r g))

-- rule 4
unfoldable pub one_fits_lem : ℕ → Role → Role → ℕ → ℕ → Bool
one_fits_lem n r t f g = is_edge_lem n r g && eqb f (edge t (leads_from_lem r g) (leads_to_lem r g))

unfoldable pub two_fits_lem : ℕ → Role → Role → Role → ℕ → ℕ → ℕ → Bool
two_fits_lem n r s t f g h =
    is_edge_lem n r g && (is_edge_lem n s h && (eqb (leads_to_lem r g) (leads_from_lem s h) && eqb f (edge t (leads_from_lem r g) (leads_to_lem s h))))

unfoldable pub three_fits_lem : ℕ → Role → Role → Role → Role → ℕ → ℕ → ℕ → ℕ → Bool
three_fits_lem n r s u t f g h k =
    is_edge_lem n r g && (is_edge_lem n s h && (is_edge_lem n u k
    && (eqb (leads_to_lem r g) (leads_from_lem s h) && (eqb (leads_to_lem s h) (leads_from_lem u k) && eqb f (edge t (leads_from_lem r g) (leads_to_lem u k))))))

abbrev pub path_fits_lem : ℕ → SubRolePath → Role → ℕ → ℕ → ℕ → ℕ → Bool
path_fits_lem n (One r) t f g h k = one_fits_lem n r t f g
path_fits_lem n (Two r s) t f g h k = two_fits_lem n r s t f g h
path_fits_lem n (Three r s u) t f g h k = three_fits_lem n r s u t f g h k

-- the roles of a path are among 64
abbrev pub PathLow : SubRolePath → Type 0
PathLow (One r) = role_id r < 64
PathLow (Two r s) = (role_id r < 64) × (role_id s < 64)
PathLow (Three r s u) = (role_id r < 64) × (role_id s < 64) × (role_id u < 64)

-- rule 5
unfoldable pub domain_fits_lem : ℕ → Role → Concept → ℕ → ℕ → Bool
domain_fits_lem n r e f g = is_edge_lem n r g && class_fits_lem e (leads_from_lem r g) f

unfoldable pub range_fits_lem : ℕ → Role → Concept → ℕ → ℕ → Bool
range_fits_lem n r e f g = is_edge_lem n r g && class_fits_lem e (leads_to_lem r g) f

-- rule 7: the fillers of two edges of one subject, the lower number first
unfoldable pub join_fits_lem : ℕ → Role → ℕ → ℕ → ℕ → Bool
join_fits_lem n r f g h =
    is_edge_lem n r g && (is_edge_lem n r h && (eqb (leads_from_lem r g) (leads_from_lem r h)
    && (ltb (leads_to_lem r g) (leads_to_lem r h) && eqb f (pair (leads_to_lem r g) (leads_to_lem r h)))))

unfoldable pub fits : Book → Axiom → ℕ → ℕ → ℕ → ℕ → Bool
fits B (SubClassOf c d) f g h k = bring_fits_lem B.counts.individuals (concept B c) (concept B d) f g
fits B (EquivalentClasses c d) f g h k =
    bring_fits_lem B.counts.individuals (concept B c) (concept B d) f g || bring_fits_lem B.counts.individuals (concept B d) (concept B c) f g
fits B (DisjointClasses c d) f g h k = false
fits B (InverseObjectProperties r s) f g h k = swap_fits_lem B.counts.individuals r s f g || swap_fits_lem B.counts.individuals s r f g
fits B (SubObjectPropertyOf p t) f g h k = path_fits_lem B.counts.individuals p t f g h k
fits B (TransitiveRole r) f g h k = two_fits_lem B.counts.individuals r r r f g h
fits B (SymmetricRole r) f g h k = swap_fits_lem B.counts.individuals r r f g
fits B (FunctionalRole r) f g h k = join_fits_lem B.counts.individuals r f g h
fits B (InverseFunctionalRole r) f g h k = join_fits_lem B.counts.individuals (flipped r) f g h
fits B (ObjectPropertyDomain r c) f g h k = domain_fits_lem B.counts.individuals r (concept B c) f g
fits B (ObjectPropertyRange r c) f g h k = range_fits_lem B.counts.individuals r (concept B c) f g
fits B (SameIndividual a b) f g h k = false
fits B (ClassAssertion c i) f g h k = told_fits_lem (concept B c) i f
fits B (ObjectPropertyAssertion r a b) f g h k = eqb f (edge r a b)
fits B (DifferentIndividuals a b) f g h k = false
fits B (NegativeObjectPropertyAssertion r a b) f g h k = false

-- whether x is the joining of i and j, whichever has the lower number
abbrev pub joins : ℕ → ℕ → ℕ → Bool
joins i j x = eqb x (pair i j) || eqb x (pair j i)

-- rule 6 changes i to j: inside one told class, or by the joining x of the two
unfoldable pub changes : Book → ℕ → ℕ → ℕ → Bool
changes B i j x = same B i j || joins i j x

-- rule 6, from the fact g: a type, by the joining x
unfoldable pub share_types_lem : Counts → Book → ℕ → ℕ → ℕ → Bool
share_types_lem h B f g x =
    ltb (bearer g) h.individuals && (ltb (bearer f) h.individuals && (ltb (class_in_lem g) h.classes
    && (eqb g (type (bearer g) (class_in_lem g)) && (eqb f (type (bearer f) (class_in_lem g)) && changes B (bearer g) (bearer f) x))))

-- the role of an edge
abbrev pub role_in_lem : ℕ → ℕ
role_in_lem g = g / 262144

-- and an edge: the end that it leads from by the joining x, the other by y
unfoldable pub share_edges_lem : Counts → Book → ℕ → ℕ → ℕ → ℕ → Bool
share_edges_lem h B f g x y =
    ltb (role_in_lem g) h.roles && (is_edge_lem h.individuals (Named (role_in_lem g)) g && (is_edge_lem h.individuals (Named (role_in_lem g)) f
    && (changes B (leads_from_lem (Named 0) g) (leads_from_lem (Named 0) f) x && changes B (leads_to_lem (Named 0) g) (leads_to_lem (Named 0) f) y)))

unfoldable pub share_fits_lem : Counts → Book → ℕ → ℕ → ℕ → ℕ → Bool
share_fits_lem h B f g x y = share_types_lem h B f g x || share_edges_lem h B f g x y

-- whether what has the class a has the marker (r, c)
abbrev pub brings_mark : Book → ℕ → ℕ → ℕ → Bool
brings_mark B a r c = some (marks B) λ m. eqb m.left a && (eqb m.role r && eqb m.class c)

abbrev pub both_bring : Book → ℕ → ℕ → Pair → Role → Bool
both_bring B a b p (Named r) = brings_mark B a r p.one && brings_mark B b r p.other
both_bring B a b p (Inverse r) = false

-- whether no individual can have both classes: they are told to be disjoint, or bring the markers of two different classes that are, under one role that
-- is functional as named
unfoldable pub pair_clash : Book → ℕ → ℕ → Bool
pair_clash B a b =
    some (disjoint B) λ p. (eqb p.one a && eqb p.other b) || (not (eqb p.one p.other) && some (functional B) (both_bring B a b p))

-- rule 8: a statement denies the fact g, or what is known without it
abbrev pub deny_fits : Book → Axiom → ℕ → Bool
deny_fits B (SubClassOf c d) g = false
deny_fits B (EquivalentClasses c d) g = false
deny_fits B (DisjointClasses c d) g = false
deny_fits B (InverseObjectProperties r s) g = false
deny_fits B (SubObjectPropertyOf p t) g = false
deny_fits B (TransitiveRole r) g = false
deny_fits B (SymmetricRole r) g = false
deny_fits B (FunctionalRole r) g = false
deny_fits B (InverseFunctionalRole r) g = false
deny_fits B (ObjectPropertyDomain r c) g = false
deny_fits B (ObjectPropertyRange r c) g = false
deny_fits B (SameIndividual a b) g = false
deny_fits B (ClassAssertion c i) g = false
deny_fits B (ObjectPropertyAssertion r a b) g = false
deny_fits B (DifferentIndividuals a b) g = changes B a b g
deny_fits B (NegativeObjectPropertyAssertion r a b) g = eqb g (edge r a b)

-- rule 8: g and h are types of one individual, whose classes clash
unfoldable pub clash_fits_lem : Counts → Book → ℕ → ℕ → Bool
clash_fits_lem h B g k =
    ltb (bearer g) h.individuals && (ltb (class_in_lem g) h.classes && (ltb (class_in_lem k) h.classes
    && (eqb g (type (bearer g) (class_in_lem g)) && (eqb k (type (bearer g) (class_in_lem k)) && pair_clash B (class_in_lem g) (class_in_lem k)))))

-- one of three passes
abbrev pub one_of_three : ℕ → ℕ → ℕ → (ℕ → Bool) → Bool
one_of_three p q t test = test p || (test q || test t)

-- some order of premises, each taken from three
unfoldable pub any_order : ℕ → ℕ → ℕ → (ℕ → ℕ → ℕ → Bool) → Bool
any_order p q t test = one_of_three p q t λ g. one_of_three p q t λ h. one_of_three p q t λ k. test g h k

abbrev pub any_two : ℕ → ℕ → ℕ → (ℕ → ℕ → Bool) → Bool
any_two p q t test = one_of_three p q t λ g. one_of_three p q t λ h. test g h
