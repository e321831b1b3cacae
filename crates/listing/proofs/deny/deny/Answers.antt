use Rattle.listing.proofs.deny.deny.Goals as goal

pub deny_pair-requires : goal.deny_pair-requires
deny_pair-requires c = let w = rw c.in-DifferentIndividuals.is at c.requires.individuals_in_bounds.1 in record { listed = c.requires.listed; labels_of = c.requires.labels_of; individuals_in_bounds = (c.requires.individuals_in_bounds.0, w.0, w.1) }

pub deny_edge-requires : goal.deny_edge-requires
deny_edge-requires c = let w = rw c.in-NegativeObjectPropertyAssertion.is at c.requires.individuals_in_bounds.1 in record { listed = c.requires.listed; role_within = (w.0, w.1, w.2) }

pub returns-in-DifferentIndividuals : goal.returns-in-DifferentIndividuals
returns-in-DifferentIndividuals c = rw c.in-DifferentIndividuals.is c.deny_pair.ensures

pub returns-in-NegativeObjectPropertyAssertion : goal.returns-in-NegativeObjectPropertyAssertion
returns-in-NegativeObjectPropertyAssertion c = rw c.in-NegativeObjectPropertyAssertion.is c.deny_edge.ensures
