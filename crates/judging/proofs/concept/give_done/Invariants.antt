use Prim.Native.Nat.{ℕ}
use mathlib.Core.Path.{◌≡◌}
use mathlib.Core.List.{List}
use lib.ListN.{length}
use Rattle.judging.specs.Memo.{Memo, Passed}
use Rattle.judging.proofs.concept.give_done.Given as goal

abbrev pub invariant-loop-next : goal.invariant-loop-next
invariant-loop-next l = (length l.acc ≡ length l.initial.acc) × ((g : List ℕ) → Memo l.book l.counts l.t g l.rows l.done → Passed l.book l.counts l.t g (record { whole = 0; way = l.way; count = l.left.count; next = l.left.next }) l.next l.initial.acc l.acc)
