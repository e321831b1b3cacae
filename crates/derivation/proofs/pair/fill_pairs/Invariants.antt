use Prim.Native.Nat.{◌-◌, ◌≤◌}
use Rattle.rules.specs.Rule.{any}
use Rattle.derivation.specs.Pairs.{brings_clash, Paired}
use Rattle.derivation.proofs.pair.fill_pairs.Given as goal

abbrev pub invariant-loop-k : goal.invariant-loop-k
invariant-loop-k l = (l.k ≤ l.n) × Paired l.initial.pairs (λ x y. any l.k λ j. brings_clash l.functional l.disjoint l.takers l.leaves l.n j x y) l.pairs

abbrev pub decreases-loop-k : goal.decreases-loop-k
decreases-loop-k l = l.n - l.k
