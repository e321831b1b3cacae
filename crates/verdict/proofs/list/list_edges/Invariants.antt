use Prim.Native.Nat.{◌-◌}
use Rattle.rules.specs.Lists.{entries3}
use Rattle.verdict.specs.Listing.{edges_of_lem}
use Rattle.verdict.proofs.list.Rows.{Rows}
use Rattle.verdict.proofs.list.list_edges.Given as goal

abbrev pub invariant-loop-r : goal.invariant-loop-r
invariant-loop-r l = Rows entries3 (edges_of_lem l.size l.t) l.m l.initial.list l.r l.list l.at

abbrev pub decreases-loop-r : goal.decreases-loop-r
decreases-loop-r l = l.m - l.r
