use native.Mathlib.Omega.{arith}
use mathlib.Core.Path.{◌≡◌, refl, sym}
use Rattle.rules.proofs.Tests.{false_true}
use Rattle.whatif.proofs.Minus.{row_more, row_at_lem}
use Rattle.whatif.proofs.subtract.same_row.Goals as goal

pub loop-c-init : goal.loop-c-init
loop-c-init c = (omega arith, refl)

pub returns-then-a-i : goal.returns-then-a-i
returns-then-a-i c = (λ e. false_true e, λ e q. c.if-a-i.true (row_at_lem c.args.a.now c.args.b.now c.args.i c.args.j c.loop-c.c c.args.width (omega arith) q))

pub loop-c-preserved : goal.loop-c-preserved
loop-c-preserved c = (omega arith, row_more c.args.a.now c.args.b.now c.args.i c.args.j c.loop-c.c (omega arith) (omega arith) c.loop-c.invariant.1 c.if-a-i.false)

pub returns : goal.returns
returns c = (λ e. let w : c.loop-c.c ≡ c.args.width = omega arith in rw w at c.loop-c.invariant.1, λ e. false_true (sym e))
