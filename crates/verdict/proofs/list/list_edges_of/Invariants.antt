use Prim.Native.Nat.{◌*◌}
use Rattle.rows.specs.Row.{has}
use Rattle.rows.specs.Members.{Over}
use Rattle.rules.specs.Lists.{entries3}
use Rattle.verdict.specs.Listing.{edges_from}
use Rattle.verdict.proofs.list.Rows.{Listed}
use Rattle.verdict.proofs.list.list_edges_of.Given as goal

abbrev pub invariant-loop-a : goal.invariant-loop-a
invariant-loop-a l = Over (has l.t (2 * l.role)) l.size.individuals l.a-iterator × Listed entries3 (edges_from l.size l.t l.role) l.size.individuals l.initial.list l.at l.a-iterator.at l.list l.i
