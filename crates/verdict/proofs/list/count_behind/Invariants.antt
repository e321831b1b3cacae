use Prim.Native.Nat.{◌<◌}
use mathlib.Core.Bool.{◌&&◌}
use lib.Dec.{ltb}
use Rattle.rows.specs.Row.{has}
use Rattle.rows.specs.Members.{Over}
use Rattle.verdict.proofs.list.Counting.{Counted}
use Rattle.verdict.proofs.list.count_behind.Given as goal

abbrev pub invariant-loop-b : goal.invariant-loop-b
invariant-loop-b l = Over (has l.t l.k) l.n l._b-iterator × (l.first < l._b-iterator.at) × Counted (λ x. ltb l.first x && has l.t l.k x) l.n l.count l._b-iterator.at l.i
