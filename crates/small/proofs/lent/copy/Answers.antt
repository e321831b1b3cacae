-- `copy` writes the first n bytes: after k of them the lent bytes are those and what was behind them. Assumes nothing.
use mathlib.Core.Path.{◌≡◌, refl, ap, ◌∙◌}
use native.Mathlib.Omega.{arith}
use lib.ListN.{length}
use borrow.Author.Rules.{rules}
use Rattle.small.proofs.Handing.{copied_more, copied_length}
use Rattle.small.proofs.lent.copy.Goals as goal

pub loop-k-init : goal.loop-k-init
loop-k-init c = (omega arith, refl)

pub bounds-out-k : goal.bounds-out-k
bounds-out-k c = omega (arith, ap length c.loop-k.invariant.1, copied_length c.args.bytes.now c.args.out.now c.loop-k.k (omega arith) (omega arith))

pub loop-k-preserved : goal.loop-k-preserved
loop-k-preserved c = (search rules, rw c.loop-k.invariant.1 (copied_more c.args.bytes.now c.args.out.now c.loop-k.k (omega arith) (omega arith)))

pub shape_of-out : goal.shape_of-out
shape_of-out c = ap length c.loop-k.invariant.1 ∙ copied_length c.args.bytes.now c.args.out.now c.loop-k.k (omega arith) (omega arith)

pub returns : goal.returns
returns c =
    let all : c.loop-k.k ≡ c.args.n = omega arith in
    rw all at c.loop-k.invariant.1
