use Rattle.rows.proofs.members.Going.{going, at_end}
use Rattle.verdict.proofs.verdict.Searches.{sought_next, sought_end, sought_found}
use Prim.Native.Nat.{◌+◌}
use mathlib.Core.Bool.{◌&&◌}
use Rattle.rows.specs.Row.{has}
use Rattle.verdict.specs.Verdict.{counting, meeting}
use Rattle.verdict.proofs.verdict.mask_clash.Goals as goal

pub returns-then-rows_meet : goal.returns-then-rows_meet
returns-then-rows_meet c =
    let b = going c.loop-d.invariant.0 c.in-Some.ensures.steps in
    sought_found (has c.args.disjoint.now c.args.c) (λ x. counting c.args.own c.args.c x && meeting c.args.size.individuals (has c.args.mask.now 0) (has c.args.s.now (c.args.base + x))) b.lt (b.scan.hit b.lt) c.rows_meet.ensures c.if-rows_meet.true

pub loop-d-preserved : goal.loop-d-preserved
loop-d-preserved c =
    let b = going c.loop-d.invariant.0 c.in-Some.ensures.steps in
    (b.over, rw b.at (sought_next _ _ c.loop-d.invariant.1 b.scan c.rows_meet.ensures c.if-rows_meet.false))

pub returns : goal.returns
returns c = sought_end _ _ c.loop-d.invariant.1 (at_end c.loop-d.invariant.0 c.in-None.ensures.steps)
