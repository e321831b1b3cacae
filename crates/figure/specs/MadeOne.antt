-- A book with all individuals made one: every individual's number is 0, in statements and in Nominals.
use Rattle.std.specs.Prelude.{ℕ, zero, suc, map}
use Rattle.book.specs.Tree.{Concept, Concepts, Top, Bot, Atomic, Nominal, SelfRestriction, Not, And, Or, Some, All, Min, Max, none, more}
use Rattle.book.specs.Book.{Book}
use Rattle.book.specs.declared.header.Counts.{Counts}
use Rattle.book.specs.declared.statement.Axiom.{Axiom}
use Rattle.book.specs.declared.statement.Statement.{Statement}
use Rattle.book.specs.declared.statement.Axiom.TheVariants.{SubClassOf, EquivalentClasses, DisjointClasses, InverseObjectProperties, SubObjectPropertyOf, TransitiveRole, SymmetricRole, FunctionalRole, InverseFunctionalRole, ObjectPropertyDomain, ObjectPropertyRange, SameIndividual, ClassAssertion, ObjectPropertyAssertion, DifferentIndividuals, NegativeObjectPropertyAssertion}

abbrev mutual
  pub one_concept : Concept → Concept
  one_concept Top = Top
  one_concept Bot = Bot
  one_concept (Atomic c) = Atomic c
  one_concept (Nominal b) = Nominal 0
  one_concept (SelfRestriction r) = SelfRestriction r
  one_concept (Not e) = Not (one_concept e)
  one_concept (And es) = And (one_parts es)
  one_concept (Or es) = Or (one_parts es)
  one_concept (Some r e) = Some r (one_concept e)
  one_concept (All r e) = All r (one_concept e)
  one_concept (Min n r e) = Min n r (one_concept e)
  one_concept (Max n r e) = Max n r (one_concept e)

  pub one_parts : Concepts → Concepts
  one_parts none = none
  one_parts (more e es) = more (one_concept e) (one_parts es)

abbrev pub one_axiom : Axiom → Axiom
one_axiom (SubClassOf c d) = SubClassOf c d
one_axiom (EquivalentClasses c d) = EquivalentClasses c d
one_axiom (DisjointClasses c d) = DisjointClasses c d
one_axiom (InverseObjectProperties r s) = InverseObjectProperties r s
one_axiom (SubObjectPropertyOf p t) = SubObjectPropertyOf p t
one_axiom (TransitiveRole r) = TransitiveRole r
one_axiom (SymmetricRole r) = SymmetricRole r
one_axiom (FunctionalRole r) = FunctionalRole r
one_axiom (InverseFunctionalRole r) = InverseFunctionalRole r
one_axiom (ObjectPropertyDomain r c) = ObjectPropertyDomain r c
one_axiom (ObjectPropertyRange r c) = ObjectPropertyRange r c
one_axiom (SameIndividual a b) = SameIndividual 0 0
one_axiom (ClassAssertion c i) = ClassAssertion c 0
one_axiom (ObjectPropertyAssertion r a b) = ObjectPropertyAssertion r 0 0
one_axiom (DifferentIndividuals a b) = DifferentIndividuals 0 0
one_axiom (NegativeObjectPropertyAssertion r a b) = NegativeObjectPropertyAssertion r 0 0

abbrev pub one_statement : Statement → Statement
one_statement x = record { body = one_axiom x.body; source = x.source; first = x.first; last = x.last }

-- one individual, or none where there is none
abbrev pub at_most_one : ℕ → ℕ
at_most_one zero = 0
at_most_one (suc n) = 1

abbrev pub one_counts : Counts → Counts
one_counts h =
    record {
      classes = h.classes;
      roles = h.roles;
      individuals = at_most_one h.individuals;
      concepts = h.concepts;
      statements = h.statements;
    }

abbrev pub made_one : Book → Book
made_one B = record { counts = one_counts B.counts; concepts = map one_concept B.concepts; statements = map one_statement B.statements }
