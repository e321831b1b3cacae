use Prim.Native.Nat.{◌-◌, ◌*◌, ◌≤◌}
use mathlib.Core.Bool.{false, ◌&&◌}
use Rattle.rows.specs.Row.{has}
use Rattle.rows.proofs.row.Scans.{Past}
use Rattle.verdict.specs.Verdict.{rows_clash_lem, marker_row}
use Rattle.verdict.proofs.verdict.markers_clash.Given as goal

abbrev pub invariant-loop-r : goal.invariant-loop-r
invariant-loop-r l = (l.r ≤ l.m) × Past (λ x. has l.functional 0 (2 * x) && rows_clash_lem l.size.individuals l.size.classes l.disjoint false (marker_row l.size l.t l.takers l.leaves l.n x l.size.classes)) 0 l.r

abbrev pub decreases-loop-r : goal.decreases-loop-r
decreases-loop-r l = l.m - l.r
