-- `put_field` adds the field of the lowest bit, if it is set. Assumes nothing.
use mathlib.Core.Path.{refl, ap}
use mathlib.Core.List.{[], ◌∷◌}
use Prim.Native.Nat.{◌%◌}
use native.Mathlib.Omega.{arith}
use lib.ListN.{length}
use Rattle.small.specs.Laying.{added}
use Rattle.small.proofs.Laying.{added_append, added_length, field_absent, field_present}
use Rattle.small.proofs.statement.put_field.Goals as goal

pub push-requires : goal.push-requires
push-requires c = let two = ap length (field_present c.args.map c.args.values c.if-map-ne0.true) in omega arith

pub push-requires-then-map-ne0 : goal.push-requires-then-map-ne0
push-requires-then-map-ne0 c =
    let two = ap length (field_present c.args.map c.args.values c.if-map-ne0.true) in
    rw c.push.ensures (omega (arith, added_length c.args.book.now (c.args.values % 2 ∷ [])))

pub returns-then-map-ne0 : goal.returns-then-map-ne0
returns-then-map-ne0 c = rw (field_present c.args.map c.args.values c.if-map-ne0.true, c.push-then-map-ne0.ensures, c.push.ensures) (added_append c.args.book.now _ _)

pub returns-else-map-ne0 : goal.returns-else-map-ne0
unfolding added
returns-else-map-ne0 c = rw (field_absent c.args.map c.args.values c.if-map-ne0.false) refl
