use native.Mathlib.Omega.{arith}
use mathlib.Core.Path.{refl, ◌∙◌}
use Rattle.derivation.proofs.Noting.{first_none, first_more, first_all}
use Rattle.derivation.proofs.denied.fill_denied.Goals as goal

pub loop-k-init : goal.loop-k-init
loop-k-init c = (omega arith, refl, first_none _ c.requires.in_bounds.1)

pub bounds-starts-k : goal.bounds-starts-k
bounds-starts-k c = omega (arith, c.loop-k-test.true, c.requires.statements_in_bounds.0)

pub put_at-here-requires : goal.put_at-here-requires
put_at-here-requires c = record { limits = c.requires.limits; labels_of = c.requires.labels_of; in_bounds = omega (arith, c.loop-k.invariant.1, c.requires.in_bounds.0) }

pub loop-k-smaller : goal.loop-k-smaller
loop-k-smaller c = omega (arith, c.loop-k-test.true)

pub loop-k-preserved : goal.loop-k-preserved
loop-k-preserved c = (
  omega (arith, c.loop-k-test.true),
  c.denied-1.given ∙ c.loop-k.invariant.1,
  first_more c.args.book.now c.args.counts c.args.starts.now c.requires.starts c.requires.statements_in_bounds.1 c.loop-k.k
      (omega (arith, c.loop-k-test.true)) c.put_at-here.ensures c.loop-k.invariant.2,
)

pub shape_of-denied : goal.shape_of-denied
shape_of-denied c = c.loop-k.invariant.1

pub returns : goal.returns
returns c = first_all c.args.book.now c.args.counts c.args.starts.now c.requires.starts c.requires.statements_in_bounds.1 c.loop-k.k (omega arith) c.loop-k.invariant.2
