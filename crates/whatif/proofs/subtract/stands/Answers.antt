use Prim.Native.Nat.{◌<◌}
use native.Mathlib.Omega.{arith}
use Rattle.rules.proofs.Tests.{false_true}
use Rattle.whatif.proofs.subtract.stands.Goals as goal

pub returns-then-m-j : goal.returns-then-m-j
returns-then-m-j c = (λ e. false_true e, λ e l. absurd (omega (arith, c.if-m-j.true)))

pub same_row-requires : goal.same_row-requires
same_row-requires c =
    let l : c.args.j < c.args.m = omega (arith, c.if-m-j.false) in
    let q = c.requires.2 l in
    (c.requires.0, omega (arith, q, c.requires.1))

pub returns : goal.returns
returns c = (λ e. (omega (arith, c.if-m-j.false), c.same_row.ensures.0 e), λ e l. c.same_row.ensures.1 e)
