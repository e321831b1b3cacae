use Prim.Native.Nat.{◌-◌, ◌≤◌}
use mathlib.Core.Bool.{◌&&◌}
use Rattle.rows.specs.Row.{has}
use Rattle.derivation.specs.Pairs.{Spreads}
use Rattle.derivation.proofs.pair.spread.Given as goal

abbrev pub invariant-loop-a : goal.invariant-loop-a
invariant-loop-a l = (l.a ≤ 256) × Spreads l.initial.pairs 0 l.a (λ x y. has l.takers l.k x && has l.acc 0 y) l.pairs

abbrev pub decreases-loop-a : goal.decreases-loop-a
decreases-loop-a l = 256 - l.a
