use native.Mathlib.Omega.{arith}
use Rattle.listing.proofs.run.entries_due.Goals as goal

pub returns-then-numbers : goal.returns-then-numbers
returns-then-numbers c = rw c.if-numbers.true (omega arith)

pub returns : goal.returns
returns c = rw c.if-numbers.false (omega arith)
