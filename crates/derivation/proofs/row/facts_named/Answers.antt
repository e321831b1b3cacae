use mathlib.Core.Path.{refl}
use lib.ListN.{length}
use Rattle.derivation.specs.Rows.{premises_of}
use Rattle.derivation.proofs.Claims.{before_in, earlier_all}
use Rattle.derivation.proofs.row.facts_named.Goals as goal

pub named_fact-requires : goal.named_fact-requires
named_fact-requires c = (c.requires.limits, before_in c.args.k _ (length c.args.rows.now) (earlier_all c.args.k c.args.row c.requires.k_in_bounds.1).0 c.requires.k_in_bounds.0)

pub named_fact-requires-2 : goal.named_fact-requires-2
named_fact-requires-2 c = (c.requires.limits, before_in c.args.k _ (length c.args.rows.now) (earlier_all c.args.k c.args.row c.requires.k_in_bounds.1).1 c.requires.k_in_bounds.0)

pub named_fact-requires-3 : goal.named_fact-requires-3
named_fact-requires-3 c = (c.requires.limits, before_in c.args.k _ (length c.args.rows.now) (earlier_all c.args.k c.args.row c.requires.k_in_bounds.1).2 c.requires.k_in_bounds.0)

pub returns : goal.returns
unfolding premises_of
returns c = rw (c.named_fact-3.ensures, c.named_fact-2.ensures, c.named_fact.ensures) refl
