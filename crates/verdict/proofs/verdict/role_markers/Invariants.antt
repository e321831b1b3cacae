use Prim.Native.Nat.{◌-◌, ◌≤◌}
use mathlib.Core.Bool.{◌&&◌}
use lib.ListN.{get_or}
use Rattle.rows.specs.Row.{has}
use Rattle.rows.specs.Table.{leads}
use Rattle.verdict.specs.Verdict.{meeting, marker_for}
use Rattle.verdict.proofs.verdict.Markings.{Brought}
use Rattle.verdict.proofs.verdict.role_markers.Given as goal

abbrev pub invariant-loop-k : goal.invariant-loop-k
invariant-loop-k l = (l.k ≤ l.n) × Brought l.initial.markers (λ j d i. marker_for l.r d (get_or l.leaves j 0) && meeting l.size.classes (has l.takers j) (λ c. leads l.size l.t (l.size.fields - 1) c i)) l.k l.markers

abbrev pub decreases-loop-k : goal.decreases-loop-k
decreases-loop-k l = l.n - l.k
