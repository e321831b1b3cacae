use Prim.Native.Nat.{◌<◌}
use native.Mathlib.Omega.{arith}
use borrow.Author.Tests.{not-false}
use mathlib.Core.Path.{sym, ◌∙◌}
use Rattle.judging.specs.Way.{count_of_lem}
use Rattle.judging.proofs.Judging.{way_lower, passed_more}
use Rattle.judging.proofs.concept.give_done.Goals as goal

pub loop-next-preserved : goal.loop-next-preserved
loop-next-preserved c =
    let l : c.loop-next.next < count_of_lem c.args.left.way = omega (arith, c.requires.count_value.0, c.loop-next-test.true) in
    let low = way_lower c.args.book.now c.args.counts c.args.left.whole c.args.left.way c.loop-next.next c.requires.way_in l in
    let q : c.part_of-p.result < c.args.counts.concepts = omega (arith, c.part_of-p.ensures, low, c.requires.whole_lt_concepts.0) in
    (c.give.ensures.0 ∙ c.loop-next.invariant.0, λ g m. passed_more c.args.book.now c.args.counts c.args.t.now g c.args.acc.now c.loop-next.acc _ c.args.left c.loop-next.next c.part_of-p.result m q (sym c.is_done.ensures ∙ not-false _ c.if-not-is_done.false-raw) l c.part_of-p.ensures c.give.ensures.1 (c.loop-next.invariant.1 g m))
