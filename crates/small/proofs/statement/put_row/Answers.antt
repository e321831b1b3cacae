-- `put_row` adds kind, map and fields. Assumes nothing.
use mathlib.Core.Path.{refl}
use native.Mathlib.Omega.{arith}
use Rattle.small.specs.Laying.{added, row_bytes}
use Rattle.small.proofs.statement.put_row.Goals as goal

pub push-requires : goal.push-requires
unfolding row_bytes
push-requires c = omega (arith, c.requires)

pub push-requires-2 : goal.push-requires-2
unfolding row_bytes added
push-requires-2 c = rw c.push.ensures (omega (arith, c.requires))

pub push-requires-3 : goal.push-requires-3
unfolding row_bytes added
push-requires-3 c = rw (c.push-2.ensures, c.push.ensures) (omega (arith, c.requires))

pub put_fields-requires : goal.put_fields-requires
unfolding row_bytes added
put_fields-requires c = rw (c.push-3.ensures, c.push-2.ensures, c.push.ensures) (omega (arith, c.requires))

pub returns : goal.returns
unfolding row_bytes added
returns c = rw (c.put_fields.ensures, c.push-3.ensures, c.push-2.ensures, c.push.ensures) refl
