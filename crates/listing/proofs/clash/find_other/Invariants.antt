use Rattle.rows.specs.Row.{has}
use Rattle.rows.specs.Members.{Over}
use Rattle.listing.proofs.Clashes.{Alone}
use Rattle.listing.proofs.clash.find_other.Given as goal

abbrev pub invariant-loop-b : goal.invariant-loop-b
invariant-loop-b l = Over (has l.pairs l.a) l.fn.size.classes l.b-iterator × Alone l.fn.size l.t l.pairs l.x l.a l.b-iterator.at
