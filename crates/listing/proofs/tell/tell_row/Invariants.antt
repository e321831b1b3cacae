use Prim.Native.Nat.{◌-◌, ◌≤◌}
use Rattle.listing.specs.Told.{ToldRow}
use Rattle.listing.proofs.tell.tell_row.Given as goal

abbrev pub invariant-loop-j : goal.invariant-loop-j
invariant-loop-j l = (l.j ≤ l.n) × ToldRow l.labels l.i l.k l.j l.initial.t l.t

abbrev pub decreases-loop-j : goal.decreases-loop-j
decreases-loop-j l = l.n - l.j
