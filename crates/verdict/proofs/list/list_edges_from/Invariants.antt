use Prim.Native.Nat.{◌*◌}
use Rattle.rows.specs.Row.{has}
use Rattle.rules.specs.Fact.{three}
use Rattle.rules.specs.Lists.{only, entries3}
use Rattle.verdict.proofs.list.Words.{Words}
use Rattle.verdict.proofs.list.list_edges_from.Given as goal

abbrev pub invariant-loop-w : goal.invariant-loop-w
invariant-loop-w l = Words entries3 (λ x. only (has l.t l.k x) (three l.role l.first x)) l.n l.initial.list l.at (l.w * 64) l.list l.i
