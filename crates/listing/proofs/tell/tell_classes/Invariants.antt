use Prim.Native.Nat.{◌-◌, ◌≤◌}
use Rattle.listing.specs.Told.{ToldRows}
use Rattle.listing.proofs.tell.tell_classes.Given as goal

abbrev pub invariant-loop-i : goal.invariant-loop-i
invariant-loop-i l = (l.i ≤ l.counts.individuals) × ToldRows l.counts l.labels l.i l.initial.t l.t

abbrev pub decreases-loop-i : goal.decreases-loop-i
decreases-loop-i l = l.counts.individuals - l.i
