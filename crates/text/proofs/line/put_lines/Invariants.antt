use Prim.Native.Nat.{◌-◌, ◌≤◌}
use Rattle.text.proofs.line.Lined.{Lined}
use Rattle.text.proofs.line.put_lines.Given as goal

abbrev pub invariant-loop-k : goal.invariant-loop-k
invariant-loop-k l = (l.k ≤ l.n) × Lined l.letter l.list l.w l.initial.out l.at l.out l.here l.from l.k

abbrev pub decreases-loop-k : goal.decreases-loop-k
decreases-loop-k l = l.n - l.k
