use native.Mathlib.Omega.{arith}
use Rattle.rows.proofs.row.Scans.{past_none}
use Rattle.verdict.proofs.verdict.Searches.{past_more, past_end, past_found}
use Rattle.verdict.proofs.verdict.markers_clash.Goals as goal

pub overflow_sub-m : goal.overflow_sub-m
overflow_sub-m c = omega (arith, c.requires.table.sized.some)

pub loop-r-init : goal.loop-r-init
loop-r-init c = (omega arith, past_none _ _)

pub named_clash-requires : goal.named_clash-requires
named_clash-requires c = record { table = c.requires.table; n_in_bounds = c.requires.n_in_bounds; classes_in_bounds = c.requires.classes_in_bounds; in_bounds = c.requires.in_bounds; r_bound = omega (arith, c.requires.table.sized.pairs) }

pub returns-then-named_clash : goal.returns-then-named_clash
returns-then-named_clash c = past_found _ c.loop-r.r _ c.loop-r-test.true c.named_clash.ensures c.if-named_clash.true

pub overflow_step-r : goal.overflow_step-r
overflow_step-r c = omega arith

pub loop-r-smaller : goal.loop-r-smaller
loop-r-smaller c = omega arith

pub loop-r-preserved : goal.loop-r-preserved
loop-r-preserved c = (omega arith, past_more c.loop-r.invariant.1 c.named_clash.ensures c.if-named_clash.false)

pub returns : goal.returns
returns c = past_end c.loop-r.invariant.1 c.loop-r-test.false
