use mathlib.Core.Path.{sym, ◌∙◌}
use Rattle.writer.proofs.Ways.{walk_begin, walk_on, walk_less, search_already, search_free}
use Rattle.writer.proofs.Spans.{span_match, match_span, inside_span}
use Rattle.writer.proofs.tree.search.Goals as goal

pub loop-new-init : goal.loop-new-init
loop-new-init c = walk_begin _ _ _ _ _ c.requires.tree _ _ c.requires.count_nonzero.0

pub alike-requires : goal.alike-requires
alike-requires c = (inside_span c.args.book.now c.args.spans.now c.loop-new.i (c.requires.tree.inside c.loop-new.i c.loop-new.invariant.low), c.requires.count_nonzero.1)

pub returns-then-alike : goal.returns-then-alike
returns-then-alike c = search_already _ _ _ _ _ c.requires.tree _ _ c.loop-new.i c.loop-new.invariant.low (span_match c.args.book.now c.args.spans.now c.loop-new.i c.args.new.at c.args.new.size (c.alike.ensures.yes c.if-alike.true))

pub digit-requires : goal.digit-requires
digit-requires c = c.requires.count_nonzero.1

pub returns-then-next-eq0 : goal.returns-then-next-eq0
returns-then-next-eq0 c =
    let unlike = c.alike.ensures.no c.if-alike.false in
    search_free _ _ _ _ _ c.requires.tree _ _ c.loop-new.i c.loop-new.d c.digit.result c.loop-new.invariant (λ m. let q = match_span c.args.book.now c.args.spans.now c.loop-new.i c.args.new.at c.args.new.size m in unlike q.0 q.1) c.digit.ensures.0 c.digit.ensures.1 (sym c.from-next.ensures ∙ c.if-next-eq0.true)

pub loop-new-smaller : goal.loop-new-smaller
loop-new-smaller c =
    let unlike = c.alike.ensures.no c.if-alike.false in
    walk_less _ _ _ _ _ c.requires.tree _ _ c.loop-new.i c.loop-new.d c.digit.result c.loop-new.invariant (λ m. let q = match_span c.args.book.now c.args.spans.now c.loop-new.i c.args.new.at c.args.new.size m in unlike q.0 q.1) c.digit.ensures.0 c.digit.ensures.1 c.from-next.result c.from-next.ensures c.if-next-eq0.false

pub loop-new-preserved : goal.loop-new-preserved
loop-new-preserved c =
    let unlike = c.alike.ensures.no c.if-alike.false in
    walk_on _ _ _ _ _ c.requires.tree _ _ c.loop-new.i c.loop-new.d c.digit.result c.loop-new.invariant (λ m. let q = match_span c.args.book.now c.args.spans.now c.loop-new.i c.args.new.at c.args.new.size m in unlike q.0 q.1) c.digit.ensures.0 c.digit.ensures.1 c.from-next.result c.from-next.ensures c.if-next-eq0.false
