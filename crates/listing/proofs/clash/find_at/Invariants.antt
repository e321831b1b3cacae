use Rattle.rows.specs.Row.{has}
use Rattle.rows.specs.Members.{Over}
use Rattle.listing.proofs.Clashes.{ApartBelow}
use Rattle.listing.proofs.clash.find_at.Given as goal

abbrev pub invariant-loop-a : goal.invariant-loop-a
invariant-loop-a l = Over (has l.t l.k) l.size.classes l.a-iterator × ApartBelow l.size l.t l.pairs l.x l.a-iterator.at
