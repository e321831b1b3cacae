use Prim.Native.Nat.{◌-◌}
use Rattle.rules.specs.Lists.{entries2}
use Rattle.verdict.proofs.list.Rows.{Rows}
use Rattle.verdict.proofs.list.Room.{types_from}
use Rattle.verdict.proofs.list.list_types.Given as goal

abbrev pub invariant-loop-i : goal.invariant-loop-i
invariant-loop-i l = Rows entries2 (types_from l.size l.t) l.i-end l.initial.list l.i l.list l.at

abbrev pub decreases-loop-i : goal.decreases-loop-i
decreases-loop-i l = l.i-end - l.i
