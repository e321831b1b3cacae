use native.Mathlib.Omega.{arith}
use Rattle.rows.proofs.members.Going.{going, at_end}
use Rattle.listing.proofs.Clashes.{type_next, apart_to, apart_more, pair_found, pair_none}
use Rattle.listing.proofs.clash.find_at.Goals as goal

pub of-a-items-requires : goal.of-a-items-requires
of-a-items-requires c =
    let r = type_next c.requires.0 c.args.x 0 c.requires.2 (omega arith) (rw c.type_field.ensures at c.row_of-k.ensures.0) in
    (r.0, r.2)

pub find_other-requires : goal.find_other-requires
find_other-requires c =
    let b = going c.loop-a.invariant.0 c.in-Some.ensures.steps in
    (c.requires.0, c.requires.1, c.requires.2, b.lt)

pub returns-in-Some-find_other : goal.returns-in-Some-find_other
returns-in-Some-find_other c =
    let b = going c.loop-a.invariant.0 c.in-Some.ensures.steps in
    pair_found c.args.size c.args.t.now c.args.pairs.now c.args.x (rw c.type_field.ensures at c.row_of-k.ensures.0) c.requires.2 b.lt (b.scan.hit b.lt) c.in-Some-find_other.ensures

pub loop-a-preserved : goal.loop-a-preserved
loop-a-preserved c =
    let b = going c.loop-a.invariant.0 c.in-Some.ensures.steps in
    (b.over, rw b.at (apart_more c.args.size c.args.t.now c.args.pairs.now c.args.x (apart_to c.args.size c.args.t.now c.args.pairs.now c.args.x (rw c.type_field.ensures at c.row_of-k.ensures.0) c.loop-a.invariant.1 b.scan) c.in_default.ensures))

pub returns : goal.returns
returns c = pair_none c.args.size c.args.t.now c.args.pairs.now c.args.x (apart_to c.args.size c.args.t.now c.args.pairs.now c.args.x (rw c.type_field.ensures at c.row_of-k.ensures.0) c.loop-a.invariant.1 (at_end c.loop-a.invariant.0 c.in-None.ensures.steps))
