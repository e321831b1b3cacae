use native.Mathlib.Nat.{sub-zero}
use Rattle.listing.proofs.run.clear_both.Goals as goal

pub returns : goal.returns
returns c = (rw sub-zero at c.clear.ensures, rw sub-zero at c.clear-2.ensures)
