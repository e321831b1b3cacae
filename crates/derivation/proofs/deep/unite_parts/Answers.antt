use native.Mathlib.Omega.{arith}
use Rattle.derivation.proofs.Leaves.{parted_none, parted_more, parted_all}
use Rattle.tables.proofs.concept.Records.{part_known, parts_here}
use Rattle.derivation.proofs.deep.unite_parts.Goals as goal

pub bounds-book-d : goal.bounds-book-d
bounds-book-d c = omega (arith, c.args.book.opened.room)

pub loop-i-init : goal.loop-i-init
loop-i-init c = (omega arith, parted_none _ _ _ _)

pub part_number-requires : goal.part_number-requires
part_number-requires c =
    let g = part_known c.args.book.opened c.args.d c.requires.d_lt_concepts.0 c.parts_of-parts.result (parts_here c.args.book.opened c.args.d c.requires.d_lt_concepts.0 _ c.parts_of-parts.ensures) c.loop-i.i c.loop-i-test.true in
    (g.inside, c.loop-i-test.true)

pub unite_wide-requires : goal.unite_wide-requires
unite_wide-requires c =
    let here = parts_here c.args.book.opened c.args.d c.requires.d_lt_concepts.0 _ c.parts_of-parts.ensures in
    let g = part_known c.args.book.opened c.args.d c.requires.d_lt_concepts.0 c.parts_of-parts.result here c.loop-i.i c.loop-i-test.true in
    (omega (arith, c.requires.d_lt_concepts.0, c.requires.d_lt_concepts.1, c.loop-i.invariant.1.len), omega (arith, g.lower, c.part_number.ensures, c.requires.d_lt_concepts.0, c.requires.d_lt_concepts.1, c.loop-i.invariant.1.len), λ q. omega (arith, g.lower, c.part_number.ensures, q))

pub loop-i-smaller : goal.loop-i-smaller
loop-i-smaller c = omega arith

pub loop-i-preserved : goal.loop-i-preserved
loop-i-preserved c =
    let here = parts_here c.args.book.opened c.args.d c.requires.d_lt_concepts.0 _ c.parts_of-parts.ensures in
    let g = part_known c.args.book.opened c.args.d c.requires.d_lt_concepts.0 c.parts_of-parts.result here c.loop-i.i (omega arith) in
    (omega arith, parted_more c.part_number.ensures (omega (arith, c.part_number.ensures, g.lower)) c.loop-i.invariant.1 c.unite_wide.ensures)

pub shape_of-deep : goal.shape_of-deep
shape_of-deep c = c.loop-i.invariant.1.len

pub returns : goal.returns
returns c = parted_all _ (parts_here c.args.book.opened c.args.d c.requires.d_lt_concepts.0 _ c.parts_of-parts.ensures) c.loop-i.invariant.0 c.loop-i-test.false c.loop-i.invariant.1
