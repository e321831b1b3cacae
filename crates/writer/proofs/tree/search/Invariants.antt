use Prim.Native.Nat.{◌-◌}
use Rattle.writer.specs.Record.{ats, sizes}
use Rattle.writer.proofs.Ways.{Walk}
use Rattle.writer.proofs.tree.search.Given as goal

abbrev pub invariant-loop-new : goal.invariant-loop-new
invariant-loop-new l = Walk l.book l.count l.child (ats l.spans) (sizes l.spans) l.new.at l.new.size l.i l.d

abbrev pub decreases-loop-new : goal.decreases-loop-new
decreases-loop-new l = l.count - l.i
