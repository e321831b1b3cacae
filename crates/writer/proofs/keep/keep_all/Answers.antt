use native.Mathlib.Omega.{arith}
use mathlib.Core.Path.{refl, sym, ◌∙◌}
use Rattle.book.specs.Bytes.{Bytes}
use Rattle.book.proofs.reader.Laws.{turn_goes}
use Rattle.writer.specs.Record.{ats, sizes}
use Rattle.writer.proofs.Going.{gathering_begin, gathering_end, gathering_room, gathering_over}
use Rattle.writer.proofs.Spans.{ats_length, records_front, stand_front}
use Rattle.writer.proofs.keep.keep_all.Goals as goal

pub loop-next-init : goal.loop-next-init
loop-next-init c = (gathering_begin _ _ _ _ _ _ c.requires.tree, refl, refl)

pub overflow_sub-span : goal.overflow_sub-span
overflow_sub-span c =
    let g = turn_goes c.args.book.now c.args.counts c.loop-next.here _ _ (sym c.next_statement.ensures ∙ c.in-Some.is) in
    omega (arith, g.0)

pub keep-count-requires-clause-count_in_bounds : goal.keep-count-requires-clause-count_in_bounds
keep-count-requires-clause-count_in_bounds c =
    let turn = sym c.next_statement.ensures ∙ c.in-Some.is in
    let g = turn_goes c.args.book.now c.args.counts c.loop-next.here _ _ turn in
    let room = gathering_room c.args.book.now c.args.counts c.args.start c.loop-next.count c.loop-next.child (ats c.loop-next.spans) (sizes c.loop-next.spans) c.loop-next.here _ _ c.loop-next.invariant.0 turn in
    (omega (arith, room, c.requires.start_in_bounds.0, c.loop-next.invariant.1), omega (arith, room, c.requires.start_in_bounds.1, c.loop-next.invariant.2), omega (arith, room, c.requires.start_in_bounds.2), omega (arith, g.0, g.1))

pub loop-next-smaller : goal.loop-next-smaller
loop-next-smaller c =
    let g = turn_goes c.args.book.now c.args.counts c.loop-next.here _ _ (sym c.next_statement.ensures ∙ c.in-Some.is) in
    omega (arith, g.0, g.1)

pub loop-next-preserved : goal.loop-next-preserved
loop-next-preserved c =
    let turn = sym c.next_statement.ensures ∙ c.in-Some.is in
    let bytes : Bytes c.args.book.now = (λ i m. omega (arith, c.type_inv.book i)) in
    (gathering_over c.args.book.now bytes c.args.counts c.requires.start_in_bounds.3 c.args.start c.loop-next.count c.loop-next.child (ats c.loop-next.spans) (sizes c.loop-next.spans) c.loop-next.here _ _ c.loop-next.invariant.0 turn c.keep-count.result _ _ _ c.keep-count.ensures.tree_2 c.keep-count.ensures.kept, c.keep-count.auto.child ∙ c.loop-next.invariant.1, c.keep-count.auto.spans ∙ c.loop-next.invariant.2)

pub returns-clause-records : goal.returns-clause-records
returns-clause-records c =
    let t = c.loop-next.invariant.0.tree in
    records_front c.loop-next.spans c.loop-next.count (omega (arith, ats_length c.loop-next.spans, t.places)) c.args.book.now c.args.counts _ (gathering_end _ _ _ _ _ _ _ _ c.loop-next.invariant.0 (sym c.next_statement.ensures ∙ c.in_default.is))

pub returns-clause-stand : goal.returns-clause-stand
returns-clause-stand c =
    let t = c.loop-next.invariant.0.tree in
    stand_front c.loop-next.spans c.loop-next.count (omega (arith, ats_length c.loop-next.spans, t.places)) c.args.book.now c.loop-next.child t
