use Prim.Native.Nat.{◌<◌}
use mathlib.Core.Bool.{◌&&◌}
use lib.Dec.{ltb}
use Rattle.rows.specs.Row.{has}
use Rattle.rows.specs.Members.{Over}
use Rattle.rules.specs.Fact.{two}
use Rattle.rules.specs.Lists.{only, entries2}
use Rattle.verdict.proofs.list.Rows.{Listed}
use Rattle.verdict.proofs.list.list_behind.Given as goal

abbrev pub invariant-loop-b : goal.invariant-loop-b
invariant-loop-b l = Over (has l.t l.k) l.n l.b-iterator × (l.first < l.b-iterator.at) × Listed entries2 (λ x. only (ltb l.first x && has l.t l.k x) (two l.first x)) l.n l.initial.list l.at l.b-iterator.at l.list l.i
