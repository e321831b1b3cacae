use Prim.Native.Nat.{◌+◌, ◌*◌, ◌/◌, ◌%◌}
use native.Mathlib.Omega.{arith}
use mathlib.Core.Path.{◌≡◌}
use Rattle.judging.proofs.concept.set_done.Goals as goal

pub returns : goal.returns
returns c = let e : c.args.k / 512 * 512 + c.args.k % 512 ≡ c.args.k = omega arith in rw e at c.insert.ensures
