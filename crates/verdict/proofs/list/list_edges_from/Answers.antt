use native.Mathlib.Omega.{arith}
use Prim.Native.Nat.{◌+◌, ◌*◌}
use mathlib.Core.Path.{◌≡◌}
use Rattle.rules.proofs.Ended.{length_entries3}
use Rattle.verdict.proofs.list.Rows.{lays_three}
use Rattle.verdict.proofs.list.Words.{words_more, words_room}
use Rattle.verdict.proofs.list.Room.{lead_room, edges_fit}
use Rattle.verdict.proofs.list.list_edges_from.Goals as goal

pub list_edges_word-i-requires-clause-n_in_bounds : goal.list_edges_word-i-requires-clause-n_in_bounds
list_edges_word-i-requires-clause-n_in_bounds c = (lead_room c.requires.table _ _ c.row_of-k.ensures.0 (omega arith) c.requires.role_bound.1 c.requires.table.sized.individuals, c.requires.table.sized.individuals, omega (arith, c.requires.role_bound.0, c.requires.table.sized.few), omega (arith, c.requires.role_bound.1, c.requires.table.sized.individuals), omega arith, omega arith)

pub list_edges_word-i-requires-clause-n_in_bounds_2 : goal.list_edges_word-i-requires-clause-n_in_bounds_2
list_edges_word-i-requires-clause-n_in_bounds_2 c = rw length_entries3 at (words_room lays_three c.loop-w.invariant (edges_fit _ _ _ _ _ c.row_of-k.ensures.0 c.requires.first_in_bounds) (omega arith))

pub loop-w-preserved : goal.loop-w-preserved
loop-w-preserved c = let q : (c.loop-w.w + 1) * 64 ≡ c.loop-w.w * 64 + 64 = omega arith in rw q (words_more lays_three c.loop-w.invariant (omega arith) c.list_edges_word-i.ensures)
