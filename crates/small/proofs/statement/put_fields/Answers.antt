-- `put_fields` adds the fields of all eight bits: after some of them the others are left. Assumes nothing.
use mathlib.Core.Path.{◌≡◌, refl}
use native.Mathlib.Omega.{arith}
use borrow.Author.Rules.{rules}
use Rattle.std.proofs.Common.{◌/◌}
use Rattle.std.proofs.lemmas.Nat.{shr-shr}
use Rattle.small.specs.Laying.{added, field_bytes}
use Rattle.small.proofs.Laying.{left_room, left_next}
use Rattle.small.proofs.statement.put_fields.Goals as goal

pub loop-bit-init : goal.loop-bit-init
loop-bit-init c =
    let m : c.args.map / 1 ≡ c.args.map = omega arith in
    let v : c.args.values / 1 ≡ c.args.values = omega arith in
    rw (m, v) (refl, c.requires)

pub put_field-requires : goal.put_field-requires
put_field-requires c = left_room _ c.loop-bit.book c.loop-bit.bit _ _ (search rules) c.loop-bit.invariant

pub loop-bit-preserved : goal.loop-bit-preserved
loop-bit-preserved c =
    let k = c.loop-bit.bit in
    rw (c.put_field.ensures, ← shr-shr c.args.map k 1, ← shr-shr c.args.values k 1) (left_next _ c.loop-bit.book k _ _ (search rules) c.loop-bit.invariant)

pub returns : goal.returns
unfolding added field_bytes
returns c =
    let done : c.loop-bit.bit ≡ 8 = omega arith in
    rw done at c.loop-bit.invariant.0
