use native.Mathlib.Omega.{arith}
use Rattle.verdict.proofs.conclude.Outcomes.{clash_outcome, calm_outcome}
use Rattle.verdict.proofs.conclude.conclude.Goals as goal

pub overflow_sub-result : goal.overflow_sub-result
overflow_sub-result c = omega (arith, c.list_types-count.ensures.0, c.requires.used_value)

pub returns-then-clashing : goal.returns-then-clashing
returns-then-clashing c =
    clash_outcome _ _ _ _ c.args.labels.now c.args.denied c.args.types.now c.args.edges.now c.args.pairs.now c.clashing.ensures c.if-clashing.true
    c.list_types-count.ensures.0 c.requires.used_value (rw c.types-1.given at c.clear_all.ensures.types_after) c.clear_all.ensures.edges_after c.clear_all.ensures.pairs_after

pub finish-requires : goal.finish-requires
finish-requires c = record { table = c.requires.table; labelled = c.requires.labelled; grouped = rw c.part_of-groups.ensures c.requires.grouped; count_value = (c.list_types-count.ensures.0, omega (arith, c.list_types-count.ensures.0, c.requires.used_value)); types_value = rw c.types-1.given c.list_types-count.ensures.1; t_in_bounds = c.requires.t_in_bounds.1 }

pub returns : goal.returns
returns c =
    calm_outcome _ _ _ _ c.args.labels.now c.args.denied c.args.types.now c.args.edges.now c.args.pairs.now c.list_types-count.new.list
    c.clashing.ensures c.if-clashing.false
    c.types-1.given c.finish.ensures
