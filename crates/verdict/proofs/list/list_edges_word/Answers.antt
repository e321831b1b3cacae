use native.Mathlib.Omega.{arith}
use Rattle.rows.proofs.row.Scans.{word_row}
use Rattle.rows.proofs.row.Walks.{rest_start}
use Rattle.rules.proofs.Ended.{length_entries3}
use Rattle.verdict.proofs.list.Rows.{lays_three}
use Rattle.verdict.proofs.list.Words.{bits_start, bits_more, bits_room, bits_past, bits_all}
use Rattle.verdict.proofs.list.list_edges_word.Goals as goal

pub loop-j-init : goal.loop-j-init
loop-j-init c = rw (c.into_iter-j-iterator.ensures.into_iter_gives, c.of-j-items.ensures) (bits_start lays_three _ (rest_start (word_row _ _ _) (omega arith)))

pub returns-then-from-j : goal.returns-then-from-j
returns-then-from-j c = bits_past lays_three _ c.loop-j.invariant c.in-Some.ensures.steps c.if-from-j.true

pub put_three-requires : goal.put_three-requires
put_three-requires c =
    let r = bits_room lays_three _ c.loop-j.invariant c.in-Some.ensures.steps c.if-from-j.false (rw length_entries3 c.requires.n_in_bounds_2) in
    omega arith

pub loop-j-preserved : goal.loop-j-preserved
loop-j-preserved c = bits_more lays_three _ c.loop-j.invariant c.in-Some.ensures.steps c.if-from-j.false c.put_three.ensures

pub returns : goal.returns
returns c = bits_all lays_three _ c.loop-j.invariant c.in-None.ensures.steps
