use Prim.Native.Nat.{◌-◌}
use lib.ListN.{get_or}
use Rattle.rules.specs.Lists.{entries2}
use Rattle.verdict.specs.Listing.{behind_of}
use Rattle.verdict.proofs.list.Rows.{Rows}
use Rattle.verdict.proofs.list.list_pairs.Given as goal

abbrev pub invariant-loop-i : goal.invariant-loop-i
invariant-loop-i l = Rows entries2 (λ x. behind_of x l.groups (get_or l.labels x 0) l.n) l.n l.initial.list l.i l.list l.at

abbrev pub decreases-loop-i : goal.decreases-loop-i
decreases-loop-i l = l.n - l.i
