use Prim.Native.Nat.{◌/◌, ◌%◌}
use native.Mathlib.Omega.{arith}
use mathlib.Core.Path.{refl, sym}
use Rattle.rows.specs.Row.{bit}
use Rattle.rows.proofs.row.Bits.{at_word}
use Rattle.derivation.proofs.Noting.{past_end}
use Rattle.derivation.proofs.denied.is_denied.Goals as goal

pub returns-then-w-denied : goal.returns-then-w-denied
unfolding bit
returns-then-w-denied c = sym (at_word c.args.denied.now (c.args.g / 64) (c.args.g % 64) c.args.g (omega arith) (omega arith))

pub returns : goal.returns
returns c = past_end c.args.denied.now c.args.g refl c.if-w-denied.false
