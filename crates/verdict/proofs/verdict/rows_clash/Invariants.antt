use Prim.Native.Nat.{◌+◌, ◌-◌, ◌≤◌}
use mathlib.Core.Path.{◌≡◌}
use Rattle.rows.specs.Row.{has}
use Rattle.rows.proofs.row.Scans.{Past}
use Rattle.verdict.specs.Verdict.{row_clash_lem}
use Rattle.verdict.proofs.verdict.rows_clash.Given as goal

abbrev pub invariant-loop-c : goal.invariant-loop-c
invariant-loop-c l = (l.c ≤ l.c-end) × (l.c-end ≡ l.size.classes) × Past (row_clash_lem l.size.individuals l.size.classes l.disjoint l.own (λ x. has l.s (l.base + x))) 0 l.c

abbrev pub decreases-loop-c : goal.decreases-loop-c
decreases-loop-c l = l.c-end - l.c
