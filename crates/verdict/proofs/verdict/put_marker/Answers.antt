use Prim.Native.Nat.{◌-◌}
use native.Mathlib.Omega.{arith}
use lib.ListN.{get_or}
use Rattle.rows.specs.Row.{has}
use Rattle.rows.specs.Table.{leads}
use Rattle.verdict.specs.Verdict.{meeting}
use Rattle.verdict.proofs.verdict.Markings.{put_none, put_other, put_taken}
use Rattle.verdict.proofs.verdict.put_marker.Goals as goal

pub compose-requires : goal.compose-requires
compose-requires c = (omega arith, omega arith, rw (c.rows_of.ensures.0, c.class_field.ensures) c.requires.table.room, omega (arith, c.requires.table.sized.classes))

pub returns-then-role_in-r : goal.returns-then-role_in-r
returns-then-role_in-r c = put_taken c.args.size.classes c.args.r (get_or c.args.leaves.now c.args.k 0) c.args.k c.args.takers.now c.is_marker.ensures c.if-is_marker.true c.role_in.ensures c.if-role_in-r.true c.filler_in.ensures.0 (rw (c.rows_of.ensures.0, c.class_field.ensures) at c.compose.ensures) c.gather.ensures

pub returns-else-role_in-r : goal.returns-else-role_in-r
returns-else-role_in-r c = put_other c.args.r (get_or c.args.leaves.now c.args.k 0) (λ i. meeting c.args.size.classes (has c.args.takers.now c.args.k) (λ x. leads c.args.size c.args.t.now (c.args.size.fields - 1) x i)) c.is_marker.ensures c.if-is_marker.true c.role_in.ensures c.if-role_in-r.false

pub returns-else-is_marker : goal.returns-else-is_marker
returns-else-is_marker c = put_none c.args.r (get_or c.args.leaves.now c.args.k 0) (λ i. meeting c.args.size.classes (has c.args.takers.now c.args.k) (λ x. leads c.args.size c.args.t.now (c.args.size.fields - 1) x i)) c.is_marker.ensures c.if-is_marker.false
