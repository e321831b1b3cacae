use native.Mathlib.Omega.{arith}
use Rattle.verdict.proofs.conclude.Outcomes.{pairs_few, same_listed, same_counted, refused_outcome, finished_outcome}
use Rattle.verdict.proofs.conclude.finish.Goals as goal

pub overflow_mul-same : goal.overflow_mul-same
overflow_mul-same c = omega (arith, pairs_few _ _ _ c.count_pairs-same.ensures c.requires.table.sized.individuals)

pub returns-then-pairs-same : goal.returns-then-pairs-same
returns-then-pairs-same c = refused_outcome _ _ _ c.args.types.now c.args.edges.now c.args.pairs.now (same_counted c.requires.labelled c.requires.grouped c.count_pairs-same.ensures) c.if-pairs-same.true c.clear_all.ensures.types_after c.clear_all.ensures.edges_after c.clear_all.ensures.pairs_after

pub overflow_cast-result : goal.overflow_cast-result
overflow_cast-result c = omega (arith, pairs_few _ _ _ c.count_pairs-same.ensures c.requires.table.sized.individuals)

pub returns : goal.returns
returns c =
    finished_outcome _ _ _ c.args.types.now c.args.edges.now c.args.pairs.now c.requires.count_value.0 c.requires.count_value.1 (same_counted c.requires.labelled c.requires.grouped c.count_pairs-same.ensures) c.if-pairs-same.false
    c.requires.types_value c.list_edges.ensures (rw (same_listed c.requires.labelled c.requires.grouped) at c.list_pairs.ensures)
