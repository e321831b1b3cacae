use native.Mathlib.Omega.{arith}
use mathlib.Core.Path.{refl, sym, ◌∙◌}
use Rattle.derivation.proofs.Pairing.{paired_marker, paired_none}
use Rattle.tables.proofs.Blank.{blank}
use Rattle.derivation.proofs.pair.pair_marker.Goals as goal

pub gather_partners-requires : goal.gather_partners-requires
gather_partners-requires c = record { in_bounds = (c.requires.in_bounds.0, c.requires.in_bounds.1, c.requires.by_index c.args.k c.requires.in_bounds.2); n_in_bounds = (c.requires.n_in_bounds.0, c.requires.n_in_bounds.1, omega arith) }

pub returns-then-is_marker : goal.returns-then-is_marker
returns-then-is_marker c = paired_marker c.args.functional.now c.args.disjoint.now c.args.takers.now c.args.leaves.now c.args.n c.args.k refl (λ y l. blank 8 _) c.gather_partners.ensures c.spread.ensures

pub returns-else-is_marker : goal.returns-else-is_marker
returns-else-is_marker c = paired_none c.args.functional.now c.args.disjoint.now c.args.takers.now c.args.leaves.now c.args.n c.args.k (sym c.is_marker.ensures ∙ c.if-is_marker.false)
