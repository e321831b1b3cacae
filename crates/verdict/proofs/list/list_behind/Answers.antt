use native.Mathlib.Omega.{arith}
use Rattle.rows.proofs.members.Going.{going, at_end}
use Rattle.rules.proofs.Ended.{length_entries2}
use Rattle.verdict.proofs.list.Gathers.{only_false, none_behind, scan_behind}
use Rattle.verdict.proofs.list.Rows.{lays_two, listed_start, listed_to, members_more, members_room, listed_all}
use Rattle.rows.specs.Row.{has}
use Rattle.rules.specs.Fact.{two}
use Rattle.verdict.proofs.list.list_behind.Goals as goal

pub loop-b-init : goal.loop-b-init
loop-b-init c = rw c.into_iter-b-iterator.ensures.into_iter_gives (c.from-b-items.ensures.0, omega (arith, c.from-b-items.ensures.1), rw c.from-b-items.ensures.1 (listed_start lays_two _ (λ k l. only_false (two c.args.first k) (none_behind (has c.args.t.now c.args.k) c.args.first k l))))

pub put_two-requires : goal.put_two-requires
put_two-requires c =
    let b = going c.loop-b.invariant.0 c.in-Some.ensures.steps in
    let s = scan_behind c.loop-b.invariant.1 b.scan in
    let d = listed_to lays_two (λ k l e. only_false _ e) c.loop-b.invariant.2 s (omega (arith, b.lt)) in
    let r = members_room lays_two _ _ d b.lt (s.hit b.lt) (rw length_entries2 c.requires.n_in_bounds_2) in
    omega (arith, r, b.lt)

pub loop-b-preserved : goal.loop-b-preserved
loop-b-preserved c =
    let b = going c.loop-b.invariant.0 c.in-Some.ensures.steps in
    let s = scan_behind c.loop-b.invariant.1 b.scan in
    let d = listed_to lays_two (λ k l e. only_false _ e) c.loop-b.invariant.2 s (omega (arith, b.lt)) in
    (b.over, omega (arith, b.at, b.scan.ge, c.loop-b.invariant.1), rw b.at (members_more lays_two _ _ d b.lt (s.hit b.lt) c.put_two.ensures))

pub returns : goal.returns
returns c = listed_all lays_two (λ k l e. only_false _ e) c.loop-b.invariant.2 (scan_behind c.loop-b.invariant.1 (at_end c.loop-b.invariant.0 c.in-None.ensures.steps)).gap
