use Prim.Native.Nat.{◌-◌, ◌≤◌}
use Rattle.whatif.specs.Minus.{Moved}
use Rattle.whatif.proofs.subtract.move_row.Given as goal

abbrev pub invariant-loop-c : goal.invariant-loop-c
invariant-loop-c l = (l.c ≤ l.width) × Moved l.initial.list l.i l.k l.c l.list

abbrev pub decreases-loop-c : goal.decreases-loop-c
decreases-loop-c l = l.width - l.c
