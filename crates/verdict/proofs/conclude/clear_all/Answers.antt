use native.Mathlib.Nat.{sub-zero}
use Rattle.verdict.proofs.conclude.clear_all.Goals as goal

pub returns : goal.returns
returns c = record { types_after = rw sub-zero at c.clear.ensures; edges_after = rw sub-zero at c.clear-2.ensures; pairs_after = rw sub-zero at c.clear-3.ensures }
