use Prim.Native.Nat.{ℕ, ◌+◌}
use mathlib.Core.Path.{◌≡◌, ap, ◌∙◌}
use mathlib.Core.Bool.{Bool}
use native.Mathlib.Omega.{arith}
use Rattle.book.specs.Read.{pick}
use Rattle.listing.specs.Joins.{joined_by}
use Rattle.listing.proofs.Counting.{with_none, with_more, with_few}
use Rattle.listing.proofs.join.count_with.Goals as goal

pub loop-j-init : goal.loop-j-init
loop-j-init c = (omega arith, with_none c.args.told.now c.args.labels.now c.args.i, omega arith)

pub is_joining-requires : goal.is_joining-requires
is_joining-requires c = (omega arith, omega arith, omega arith, omega arith)

pub one_more-c-requires : goal.one_more-c-requires
one_more-c-requires c = omega (arith, c.loop-j.invariant.0, c.loop-j.invariant.2, c.requires.0)

pub loop-j-smaller : goal.loop-j-smaller
loop-j-smaller c = omega (arith, c.loop-j-test.true)

pub loop-j-preserved : goal.loop-j-preserved
loop-j-preserved c =
    let e = c.one_more-c.ensures ∙ (ap (λ (b : Bool). c.loop-j.c + pick b 1 0) c.is_joining.ensures ∙ (ap (λ (n : ℕ). n + pick (joined_by c.args.told.now c.args.labels.now c.args.i c.loop-j.j) 1 0) c.loop-j.invariant.1 ∙ with_more c.args.told.now c.args.labels.now c.args.i c.loop-j.j)) in
    (omega (arith, c.loop-j-test.true), e, omega (arith, e, with_few c.args.told.now c.args.labels.now c.args.i (c.loop-j.j + 1)))

pub returns : goal.returns
returns c =
    let e : c.loop-j.j ≡ c.args.n = omega (arith, c.loop-j.invariant.0, c.loop-j-test.false) in
    (rw e at c.loop-j.invariant.1, omega (arith, e, c.loop-j.invariant.2, c.requires.0))
