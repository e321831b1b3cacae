use Prim.Native.Nat.{◌-◌, ◌≤◌}
use mathlib.Core.Bool.{◌&&◌}
use lib.ListN.{get_or}
use Rattle.rows.specs.Row.{has}
use Rattle.rules.specs.Rule.{any}
use Rattle.derivation.specs.Pairs.{marks_clash_lem, Gathers}
use Rattle.derivation.proofs.pair.gather_partners.Given as goal

abbrev pub invariant-loop-k : goal.invariant-loop-k
invariant-loop-k l = (l.k ≤ l.n) × Gathers l.initial.acc (λ y. any l.k λ j. marks_clash_lem l.functional l.disjoint l.x (get_or l.leaves j 0) && has l.takers j y) l.acc

abbrev pub decreases-loop-k : goal.decreases-loop-k
decreases-loop-k l = l.n - l.k
