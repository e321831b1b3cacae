use Prim.Native.Nat.{◌-◌, ◌≤◌}
use mathlib.Core.Path.{◌≡◌}
use lib.ListN.{take, drop}
use Rattle.whatif.proofs.subtract.same_row.Given as goal

abbrev pub invariant-loop-c : goal.invariant-loop-c
invariant-loop-c l = (l.c ≤ l.width) × (take l.c (drop l.i l.a) ≡ take l.c (drop l.j l.b))

abbrev pub decreases-loop-c : goal.decreases-loop-c
decreases-loop-c l = l.width - l.c
