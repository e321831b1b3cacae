use mathlib.Core.Path.{refl}
use native.Mathlib.Omega.{arith}
use Rattle.listing.proofs.join.one_more.Goals as goal

pub returns-then-more : goal.returns-then-more
returns-then-more c = rw c.if-more.true refl

pub returns : goal.returns
returns c = rw c.if-more.false (omega arith)
