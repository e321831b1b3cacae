use native.Mathlib.Omega.{arith}
use mathlib.Core.Path.{refl}
use Rattle.derivation.proofs.Noting.{denial_found, quiet_more, quiet_all}
use Rattle.derivation.proofs.denied.any_denial.Goals as goal

pub loop-k-init : goal.loop-k-init
loop-k-init c = (omega arith, refl)

pub bounds-starts-k : goal.bounds-starts-k
bounds-starts-k c = omega (arith, c.loop-k-test.true, c.requires.statements_in_bounds.0)

pub denies_at-requires : goal.denies_at-requires
denies_at-requires c = c.requires.limits

pub returns-then-denies_at : goal.returns-then-denies_at
returns-then-denies_at c =
    denial_found c.args.book.now c.args.counts c.args.starts.now c.requires.starts c.requires.statements_in_bounds.1 c.loop-k.k
    (omega (arith, c.loop-k-test.true)) c.denies_at.ensures c.if-denies_at.true

pub loop-k-smaller : goal.loop-k-smaller
loop-k-smaller c = omega arith

pub loop-k-preserved : goal.loop-k-preserved
loop-k-preserved c = (
  omega arith,
  quiet_more c.args.book.now c.args.counts c.args.starts.now c.requires.starts c.requires.statements_in_bounds.1
      c.loop-k.k (omega (arith, c.loop-k-test.true)) c.denies_at.ensures c.if-denies_at.false c.loop-k.invariant.1,
)

pub returns : goal.returns
returns c = quiet_all c.args.book.now c.args.counts c.args.starts.now c.requires.starts c.requires.statements_in_bounds.1 c.loop-k.k (omega arith) c.loop-k.invariant.1
