use Prim.Native.Nat.{◌+◌}
use native.Mathlib.Omega.{arith}
use lib.ListN.{length}
use Rattle.writer.specs.Lay.{total}
use Rattle.writer.specs.Record.{sizes}
use Rattle.writer.proofs.Over.{total_none, total_more, records_room}
use Rattle.writer.proofs.Spans.{sizes_at}
use Rattle.writer.proofs.lay.end_of.Goals as goal

pub loop-span-init : goal.loop-span-init
loop-span-init c = omega (arith, total_none (sizes c.args.kept.now))

pub overflow_add-end : goal.overflow_add-end
overflow_add-end c = omega (arith, sizes_at c.args.kept.now c.loop-span.span-index, records_room (sizes c.args.kept.now) c.args.start (length c.args.kept.now) c.loop-span.span-index (c.args.start + total (sizes c.args.kept.now) (length c.args.kept.now)) c.loop-span-test.true (omega arith))

pub loop-span-preserved : goal.loop-span-preserved
loop-span-preserved c = omega (arith, sizes_at c.args.kept.now c.loop-span.span-index, total_more (sizes c.args.kept.now) c.loop-span.span-index)
