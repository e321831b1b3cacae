use mathlib.Core.Path.{sym, ◌∙◌}
use native.Mathlib.Omega.{arith}
use Rattle.rows.proofs.members.Going.{going, at_end}
use Rattle.listing.proofs.Clashes.{type_room_lem, alone_to, alone_more, partner_found, partner_none}
use Rattle.listing.proofs.clash.find_other.Goals as goal

pub member-requires : goal.member-requires
member-requires c =
    let b = going c.loop-b.invariant.0 c.in-Some.ensures.steps in
    (type_room_lem c.requires.0 c.args.x c.requires.2 (rw c.type_field.ensures at c.row_of-k.ensures.0), omega (arith, b.lt, c.requires.0.sized.classes))

pub returns-then-member : goal.returns-then-member
returns-then-member c =
    let b = going c.loop-b.invariant.0 c.in-Some.ensures.steps in
    partner_found c.args.size c.args.t.now c.args.pairs.now c.args.x c.args.a (rw c.type_field.ensures at c.row_of-k.ensures.0) b.lt (b.scan.hit b.lt) (sym c.member.ensures ∙ c.if-member.true)

pub loop-b-preserved : goal.loop-b-preserved
loop-b-preserved c =
    let b = going c.loop-b.invariant.0 c.in-Some.ensures.steps in
    (b.over, rw b.at (alone_more c.args.size c.args.t.now c.args.pairs.now c.args.x c.args.a (rw c.type_field.ensures at c.row_of-k.ensures.0) (alone_to c.args.size c.args.t.now c.args.pairs.now c.args.x c.args.a c.loop-b.invariant.1 b.scan) (sym c.member.ensures ∙ c.if-member.false)))

pub returns : goal.returns
returns c = partner_none c.args.size c.args.t.now c.args.pairs.now c.args.x c.args.a (alone_to c.args.size c.args.t.now c.args.pairs.now c.args.x c.args.a c.loop-b.invariant.1 (at_end c.loop-b.invariant.0 c.in-None.ensures.steps))
