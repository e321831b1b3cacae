use mathlib.Core.Path.{refl}
use Rattle.listing.proofs.run.end_with.Goals as goal

pub returns-then-numbers : goal.returns-then-numbers
returns-then-numbers c = rw c.if-numbers.true refl

pub returns : goal.returns
returns c = rw c.if-numbers.false refl
