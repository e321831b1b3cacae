use native.Mathlib.Omega.{arith}
use Rattle.rows.proofs.row.Scans.{past_none}
use Rattle.verdict.specs.Verdict.{rows_clash_lem}
use Rattle.verdict.proofs.verdict.Searches.{past_more, past_end, past_found}
use Rattle.verdict.proofs.verdict.rows_clash.Goals as goal

pub loop-c-init : goal.loop-c-init
loop-c-init c = (omega arith, omega arith, past_none _ _)

pub row_clash-requires : goal.row_clash-requires
row_clash-requires c = record { sized = omega arith; c_lt_classes = omega arith }

pub returns-then-row_clash : goal.returns-then-row_clash
unfolding rows_clash_lem
returns-then-row_clash c = past_found _ c.loop-c.c c.args.size.classes (omega arith) c.row_clash.ensures c.if-row_clash.true

pub overflow_step-c : goal.overflow_step-c
overflow_step-c c = omega arith

pub loop-c-smaller : goal.loop-c-smaller
loop-c-smaller c = omega arith

pub loop-c-preserved : goal.loop-c-preserved
loop-c-preserved c = (omega arith, omega arith, past_more c.loop-c.invariant.2 c.row_clash.ensures c.if-row_clash.false)

pub returns : goal.returns
unfolding rows_clash_lem
returns c = past_end {n = c.args.size.classes} c.loop-c.invariant.2 (omega arith)
