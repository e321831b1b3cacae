use native.Mathlib.Omega.{arith}
use mathlib.Core.Path.{refl, sym, ◌∙◌, subst}
use Rattle.tables.proofs.Blank.{blank}
use Rattle.tables.proofs.Open.{open_limits}
use Rattle.judging.specs.Way.{count_of_lem, WayIn}
use Rattle.judging.proofs.Judging.{way_inside, way_role, way_lower, record_way, record_start_lem, judged_before, judged_new, mixed_end, mixed_next}
use Prim.Native.Nat.{◌<◌, ◌+◌, ◌*◌}
use Rattle.judging.proofs.concept.+concept_parts.Goals as goal

pub concept-is_done-requires : goal.concept-is_done-requires
concept-is_done-requires t c =
    let top = (open_limits c.requires.ready.book).concepts_top in
    omega (arith, c.requires.memo.done_room, top, c.requires.k_lt_concepts)

pub concept-shape_of-done-then-is_done : goal.concept-shape_of-done-then-is_done
concept-shape_of-done-then-is_done t c =
    refl

pub concept-returns-then-is_done : goal.concept-returns-then-is_done
concept-returns-then-is_done t c =
    let top = (open_limits c.requires.ready.book).concepts_top in
    judged_before c.args.book.bytes.now c.args.book.counts c.args.t.now c.args.groups.now c.args.k c.requires.memo c.is_done.ensures c.if-is_done.true

pub concept-record_at-expr-requires : goal.concept-record_at-expr-requires
concept-record_at-expr-requires t c =
    let top = (open_limits c.requires.ready.book).concepts_top in record { k_lt_concepts = c.requires.k_lt_concepts }

pub concept-slice_bounds-begin-end : goal.concept-slice_bounds-begin-end
concept-slice_bounds-begin-end t c =
    refl

pub concept-begin-requires : goal.concept-begin-requires
concept-begin-requires t c =
    let top = (open_limits c.requires.ready.book).concepts_top in record { laid = c.requires.ready.laid; start_in = record_start_lem c.args.book.bytes.now c.args.book.counts c.args.k c.record_at-expr.result c.record_at-expr.ensures.within; empty = λ i l. blank 8 (0 * 512 + i); in_bounds = omega arith }

pub concept-slice_bounds-parts-end : goal.concept-slice_bounds-parts-end
concept-slice_bounds-parts-end t c =
    sym c.begin.ensures.0

pub concept-parts-requires : goal.concept-parts-requires
concept-parts-requires t c =
    let top = (open_limits c.requires.ready.book).concepts_top in
    (omega arith, (c.requires.ready, (c.requires.memo, (subst (WayIn c.args.book.bytes.now c.args.book.counts c.args.k) (sym c.way_of-way.ensures) (record_way c.args.book.bytes.now c.args.book.counts c.args.k c.record_at-expr.result c.record_at-expr.ensures.within), (c.requires.k_lt_concepts, c.count_of-count.ensures, omega arith, omega (arith, c.begin.ensures.0))))))

pub concept-slice_bounds-copy-end : goal.concept-slice_bounds-copy-end
concept-slice_bounds-copy-end t c =
    sym (c.parts.ensures.acc_len ∙ c.begin.ensures.0)

pub concept-copy-requires : goal.concept-copy-requires
concept-copy-requires t c =
    let top = (open_limits c.requires.ready.book).concepts_top in
    (omega (arith, c.parts.ensures.acc_len, c.begin.ensures.0), omega (arith, c.parts.ensures.further.rows_len, c.requires.memo.rows_room, c.requires.k_lt_concepts))

pub concept-set_done-requires : goal.concept-set_done-requires
concept-set_done-requires t c =
    let top = (open_limits c.requires.ready.book).concepts_top in
    (omega (arith, c.parts.ensures.further.done_len, c.requires.memo.done_room), omega (arith, top, c.requires.k_lt_concepts))

pub concept-shape_of-rows : goal.concept-shape_of-rows
concept-shape_of-rows t c =
    c.copy.ensures.len ∙ c.parts.ensures.further.rows_len

pub concept-shape_of-done : goal.concept-shape_of-done
concept-shape_of-done t c =
    c.set_done.ensures.len ∙ c.parts.ensures.further.done_len

pub concept-returns : goal.concept-returns
concept-returns t c =
    let top = (open_limits c.requires.ready.book).concepts_top in
    judged_new c.args.book.bytes.now c.args.book.counts c.args.t.now c.args.groups.now _ c.args.k (open_limits c.requires.ready.book).individuals_top c.record_at-expr.ensures c.way_of-way.ensures refl c.begin.ensures.1 c.parts.ensures c.copy.ensures c.set_done.ensures

pub parts-give_done-next-requires : goal.parts-give_done-next-requires
parts-give_done-next-requires t c =
    record { table = c.requires.ready.laid.table; way_in = c.requires.way_in; whole_lt_concepts = (c.requires.whole_lt_concepts.0, (open_limits c.requires.ready.book).concepts_top, c.requires.memo.rows_room, c.requires.memo.done_room); count_value = (c.requires.whole_lt_concepts.1, c.requires.whole_lt_concepts.2, c.requires.whole_lt_concepts.3) }

pub parts-shape_of-rows-then-next-left : goal.parts-shape_of-rows-then-next-left
parts-shape_of-rows-then-next-left t c =
    refl

pub parts-shape_of-done-then-next-left : goal.parts-shape_of-done-then-next-left
parts-shape_of-done-then-next-left t c =
    refl

pub parts-shape_of-acc-then-next-left : goal.parts-shape_of-acc-then-next-left
parts-shape_of-acc-then-next-left t c =
    c.give_done-next.ensures.upper_bound.2

pub parts-returns-then-next-left : goal.parts-returns-then-next-left
parts-returns-then-next-left t c =
    mixed_end c.args.book.bytes.now c.args.book.counts c.args.t.now c.args.groups.now c.args.left c.give_done-next.result c.requires.memo c.give_done-next.ensures.upper_bound.2 (c.give_done-next.ensures.by_index c.args.groups.now c.requires.memo) (c.if-next-left.true ∙ c.requires.whole_lt_concepts.1)

pub parts-part_of-p-requires : goal.parts-part_of-p-requires
parts-part_of-p-requires t c =
    let l : c.give_done-next.result < count_of_lem c.args.left.way = omega (arith, c.requires.whole_lt_concepts.1, c.give_done-next.ensures.upper_bound.0, c.if-next-left.false) in record { parts_inside = way_inside c.args.book.bytes.now c.args.book.counts c.args.left.whole c.args.left.way c.requires.way_in; i_bound = l }

pub parts-concept-requires : goal.parts-concept-requires
parts-concept-requires t c =
    let l : c.give_done-next.result < count_of_lem c.args.left.way = omega (arith, c.requires.whole_lt_concepts.1, c.give_done-next.ensures.upper_bound.0, c.if-next-left.false) in
    let low = way_lower c.args.book.bytes.now c.args.book.counts c.args.left.whole c.args.left.way c.give_done-next.result c.requires.way_in l in
    let p : c.part_of-p.result < c.args.left.whole = omega (arith, c.part_of-p.ensures, low) in
    let q : c.part_of-p.result < c.args.book.counts.concepts = omega (arith, p, c.requires.whole_lt_concepts.0) in
    (omega (arith, p), (c.requires.ready, (c.requires.memo, q)))

pub parts-give-requires : goal.parts-give-requires
parts-give-requires t c =
    let l : c.give_done-next.result < count_of_lem c.args.left.way = omega (arith, c.requires.whole_lt_concepts.1, c.give_done-next.ensures.upper_bound.0, c.if-next-left.false) in
    let low = way_lower c.args.book.bytes.now c.args.book.counts c.args.left.whole c.args.left.way c.give_done-next.result c.requires.way_in l in
    let p : c.part_of-p.result < c.args.left.whole = omega (arith, c.part_of-p.ensures, low) in
    let q : c.part_of-p.result < c.args.book.counts.concepts = omega (arith, p, c.requires.whole_lt_concepts.0) in record { table = c.requires.ready.laid.table; role_in = way_role c.args.book.bytes.now c.args.book.counts c.args.left.whole c.args.left.way c.requires.way_in; in_bounds = (omega (arith, c.requires.whole_lt_concepts.3, c.give_done-next.ensures.upper_bound.2), omega (arith, c.requires.memo.rows_room, q, c.concept.ensures.further.rows_len)) }

pub parts-overflow_add-rest : goal.parts-overflow_add-rest
parts-overflow_add-rest t c =
    let l : c.give_done-next.result < count_of_lem c.args.left.way = omega (arith, c.requires.whole_lt_concepts.1, c.give_done-next.ensures.upper_bound.0, c.if-next-left.false) in
    omega (arith, l, c.requires.whole_lt_concepts.1)

pub parts-parts-requires : goal.parts-parts-requires
parts-parts-requires t c =
    let l : c.give_done-next.result < count_of_lem c.args.left.way = omega (arith, c.requires.whole_lt_concepts.1, c.give_done-next.ensures.upper_bound.0, c.if-next-left.false) in
    let low = way_lower c.args.book.bytes.now c.args.book.counts c.args.left.whole c.args.left.way c.give_done-next.result c.requires.way_in l in
    let p : c.part_of-p.result < c.args.left.whole = omega (arith, c.part_of-p.ensures, low) in
    let q : c.part_of-p.result < c.args.book.counts.concepts = omega (arith, p, c.requires.whole_lt_concepts.0) in
    (omega (arith, c.requires.whole_lt_concepts.1, l, c.give_done-next.ensures.upper_bound.1), (c.requires.ready, (c.concept.ensures.further.memo, (c.requires.way_in, (c.requires.whole_lt_concepts.0, c.requires.whole_lt_concepts.1, omega (arith, c.requires.whole_lt_concepts.1, l), omega (arith, c.requires.whole_lt_concepts.3, c.give_done-next.ensures.upper_bound.2, c.give.ensures.0))))))

pub parts-shape_of-rows : goal.parts-shape_of-rows
parts-shape_of-rows t c =
    c.parts.ensures.further.rows_len ∙ c.concept.ensures.further.rows_len

pub parts-shape_of-done : goal.parts-shape_of-done
parts-shape_of-done t c =
    c.parts.ensures.further.done_len ∙ c.concept.ensures.further.done_len

pub parts-shape_of-acc : goal.parts-shape_of-acc
parts-shape_of-acc t c =
    c.parts.ensures.acc_len ∙ (c.give.ensures.0 ∙ c.give_done-next.ensures.upper_bound.2)

pub parts-returns : goal.parts-returns
parts-returns t c =
    let l : c.give_done-next.result < count_of_lem c.args.left.way = omega (arith, c.requires.whole_lt_concepts.1, c.give_done-next.ensures.upper_bound.0, c.if-next-left.false) in
    let low = way_lower c.args.book.bytes.now c.args.book.counts c.args.left.whole c.args.left.way c.give_done-next.result c.requires.way_in l in
    let p : c.part_of-p.result < c.args.left.whole = omega (arith, c.part_of-p.ensures, low) in
    let q : c.part_of-p.result < c.args.book.counts.concepts = omega (arith, p, c.requires.whole_lt_concepts.0) in
    mixed_next c.args.book.bytes.now c.args.book.counts c.args.t.now c.args.groups.now _ c.args.left _ c.give_done-next.result c.part_of-p.result (c.give_done-next.ensures.by_index c.args.groups.now c.requires.memo) q c.concept.ensures c.give.ensures.1 l c.part_of-p.ensures c.give.ensures.0 c.give_done-next.ensures.upper_bound.2 refl refl c.parts.ensures
