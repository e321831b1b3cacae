use native.Mathlib.Omega.{arith}
use mathlib.Core.Path.{sym, ap, ◌∙◌}
use lib.ListN.{length}
use Rattle.writer.specs.Lay.{over}
use Rattle.writer.specs.Record.{ats, sizes}
use Rattle.writer.proofs.Over.{over_none, total_none, total_more, records_none, records_over, records_room}
use Rattle.writer.proofs.Spans.{sizes_at, inside_span, span_bytes, span_size}
use Rattle.writer.proofs.lay.lay_records.Goals as goal

pub loop-span-init : goal.loop-span-init
loop-span-init c = (omega (arith, total_none (sizes c.args.kept.now)), sym (ap (over c.args.out.now c.args.start) (records_none c.args.book.now (ats c.args.kept.now) (sizes c.args.kept.now)) ∙ over_none c.args.out.now c.args.start))

pub overflow_add-span : goal.overflow_add-span
overflow_add-span c = omega (arith, inside_span c.args.book.now c.args.kept.now c.loop-span.span-index (c.requires.stand.inside c.loop-span.span-index c.loop-span-test.true))

pub slice_bounds-put-end : goal.slice_bounds-put-end
slice_bounds-put-end c = omega (arith, inside_span c.args.book.now c.args.kept.now c.loop-span.span-index (c.requires.stand.inside c.loop-span.span-index c.loop-span-test.true))

pub put-requires : goal.put-requires
put-requires c =
    let inside = inside_span c.args.book.now c.args.kept.now c.loop-span.span-index (c.requires.stand.inside c.loop-span.span-index c.loop-span-test.true) in
    omega (arith, span_size c.args.book.now c.args.kept.now c.loop-span.span-index inside, records_room (sizes c.args.kept.now) c.args.start (length c.args.kept.now) c.loop-span.span-index (length c.args.out.now) c.loop-span-test.true c.requires.kept_in_bounds)

pub overflow_add-here : goal.overflow_add-here
overflow_add-here c = omega (arith, sizes_at c.args.kept.now c.loop-span.span-index, records_room (sizes c.args.kept.now) c.args.start (length c.args.kept.now) c.loop-span.span-index (length c.args.out.now) c.loop-span-test.true c.requires.kept_in_bounds)

pub loop-span-preserved : goal.loop-span-preserved
loop-span-preserved c = (
  omega (arith, sizes_at c.args.kept.now c.loop-span.span-index, total_more (sizes c.args.kept.now) c.loop-span.span-index),
  c.put.ensures ∙ (ap (over c.loop-span.out c.loop-span.here) (span_bytes c.args.book.now c.args.kept.now c.loop-span.span-index)
      ∙ records_over c.args.book.now (ats c.args.kept.now) (sizes c.args.kept.now) c.args.out.now c.loop-span.out c.args.start (length c.args.kept.now) c.loop-span.span-index c.loop-span.here c.requires.stand c.loop-span-test.true c.requires.kept_in_bounds c.loop-span.invariant.0 c.loop-span.invariant.1),
)
