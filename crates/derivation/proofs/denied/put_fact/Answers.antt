use Prim.Native.Nat.{◌+◌, ◌*◌, ◌/◌, ◌%◌}
use native.Mathlib.Omega.{arith}
use mathlib.Core.Path.{◌≡◌}
use Rattle.derivation.proofs.denied.put_fact.Goals as goal

pub returns : goal.returns
returns c = let e : c.args.g / 512 * 512 + c.args.g % 512 ≡ c.args.g = omega arith in rw e at c.insert.ensures
