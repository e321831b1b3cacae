use native.Mathlib.Omega.{arith}
use Prim.Native.Nat.{◌+◌, ◌*◌}
use mathlib.Core.Path.{◌≡◌}
use Rattle.rules.proofs.Ended.{length_entries2}
use Rattle.verdict.proofs.list.Rows.{lays_two}
use Rattle.verdict.proofs.list.Words.{words_more, words_room}
use Rattle.verdict.proofs.list.list_row.Goals as goal

pub list_word-i-requires-clause-n_in_bounds_2 : goal.list_word-i-requires-clause-n_in_bounds_2
list_word-i-requires-clause-n_in_bounds_2 c = rw length_entries2 at (words_room lays_two c.loop-w.invariant (rw length_entries2 c.requires.n_in_bounds_2) (omega arith))

pub loop-w-preserved : goal.loop-w-preserved
loop-w-preserved c = let q : (c.loop-w.w + 1) * 64 ≡ c.loop-w.w * 64 + 64 = omega arith in rw q (words_more lays_two c.loop-w.invariant (omega arith) c.list_word-i.ensures)
