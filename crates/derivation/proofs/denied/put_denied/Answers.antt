use native.Mathlib.Omega.{arith}
use Rattle.derivation.proofs.Noting.{put_different, put_negative, put_nothing, known_different, known_negative, known_nothing, pair_below, edge_below}
use Rattle.derivation.proofs.denied.put_denied.Goals as goal

pub pair_of-requires : goal.pair_of-requires
pair_of-requires c =
    let w = rw c.in-DifferentIndividuals.is at c.requires.limits.2 in
    (omega (arith, w.0), omega (arith, w.1))

pub put_fact-requires : goal.put_fact-requires
put_fact-requires c =
    let w = rw c.in-DifferentIndividuals.is at c.requires.limits.2 in (
      c.requires.in_bounds,
      pair_below c.requires.limits.0.individuals_top w.0 w.1 c.pair_of.ensures,
    )

pub pair_of-requires-in-DifferentIndividuals : goal.pair_of-requires-in-DifferentIndividuals
pair_of-requires-in-DifferentIndividuals c =
    let w = rw c.in-DifferentIndividuals.is at c.requires.limits.2 in
    (omega (arith, w.1), omega (arith, w.0))

pub put_fact-requires-in-DifferentIndividuals : goal.put_fact-requires-in-DifferentIndividuals
put_fact-requires-in-DifferentIndividuals c =
    let w = rw c.in-DifferentIndividuals.is at c.requires.limits.2 in (
      omega (arith, c.denied-1.given, c.requires.in_bounds),
      pair_below c.requires.limits.0.individuals_top w.1 w.0 c.pair_of-in-DifferentIndividuals.ensures,
    )

pub edge_of-requires : goal.edge_of-requires
edge_of-requires c =
    let w = rw c.in-NegativeObjectPropertyAssertion.is at c.requires.limits.2 in
    (omega (arith, w.0, c.requires.limits.0.roles_top), omega (arith, w.1, c.requires.limits.0.individuals_top), omega (arith, w.2, c.requires.limits.0.individuals_top))

pub put_fact-requires-in-NegativeObjectPropertyAssertion : goal.put_fact-requires-in-NegativeObjectPropertyAssertion
put_fact-requires-in-NegativeObjectPropertyAssertion c =
    let w = rw c.in-NegativeObjectPropertyAssertion.is at c.requires.limits.2 in (
      c.requires.in_bounds,
      edge_below c.args.counts _ c.requires.limits.0 c.edge_of.ensures w.0
          w.1 w.2,
    )

pub returns-in-DifferentIndividuals : goal.returns-in-DifferentIndividuals
returns-in-DifferentIndividuals c =
    let w = rw c.in-DifferentIndividuals.is at c.requires.limits.2 in record {
      with_denied = put_different _ _ c.in-DifferentIndividuals.is c.pair_of.ensures
          c.put_fact.ensures c.pair_of-in-DifferentIndividuals.ensures c.put_fact-in-DifferentIndividuals.ensures;
      value = known_different _ _ c.in-DifferentIndividuals.is w.0 w.1 c.told_same.ensures;
    }

pub returns-in-NegativeObjectPropertyAssertion : goal.returns-in-NegativeObjectPropertyAssertion
returns-in-NegativeObjectPropertyAssertion c = record { with_denied = put_negative _ _ _ c.in-NegativeObjectPropertyAssertion.is c.edge_of.ensures c.put_fact-in-NegativeObjectPropertyAssertion.ensures; value = λ B t. known_negative _ _ _ c.in-NegativeObjectPropertyAssertion.is B }

pub returns-in_default : goal.returns-in_default
returns-in_default c = record { with_denied = put_nothing c.args.statement c.in_default.in_default-own.keys3; value = λ B t. known_nothing c.args.statement c.in_default.in_default-own.keys3 B }
