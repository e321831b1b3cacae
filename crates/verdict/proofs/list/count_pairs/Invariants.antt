use Prim.Native.Nat.{◌-◌}
use Rattle.verdict.proofs.list.Counting.{CountedPairs}
use Rattle.verdict.proofs.list.count_pairs.Given as goal

abbrev pub invariant-loop-i : goal.invariant-loop-i
invariant-loop-i l = CountedPairs l.labels l.groups l.n l.i l.count

abbrev pub decreases-loop-i : goal.decreases-loop-i
decreases-loop-i l = l.n - l.i
