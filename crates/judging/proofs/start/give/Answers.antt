use native.Mathlib.Omega.{arith}
use mathlib.Core.Path.{◌≡◌, refl, subst}
use Rattle.rows.specs.Table.{base, flipped}
use Rattle.book.specs.Role.{field_of_lem}
use Rattle.tables.specs.Open.{size_of}
use Rattle.judging.specs.Way.{RoleIn}
use Rattle.judging.proofs.Starting.{few, field_lt, flip_lt, field_room, gave_leaf, gave_every, gave_any, gave_inner}
use Rattle.judging.proofs.start.give.Goals as goal

pub flip-requires : goal.flip-requires
flip-requires c = let r = subst (RoleIn c.args.counts) c.in-Inner.is c.requires.role_in in omega (arith, c.field_of.ensures, field_lt c.args.counts c.requires.table c.in-Inner.r r, c.requires.table.sized.few)

pub rows_of-requires : goal.rows_of-requires
rows_of-requires c =
    let r = subst (RoleIn c.args.counts) c.in-Inner.is c.requires.role_in in
    rw c.size_of-size.ensures (c.requires.table.sized, omega (arith, c.flip.ensures, c.field_of.ensures, flip_lt c.args.counts c.requires.table c.in-Inner.r r))

pub compose-requires : goal.compose-requires
compose-requires c =
    let r = subst (RoleIn c.args.counts) c.in-Inner.is c.requires.role_in in
    let q : c.rows_of.result ≡ base (size_of c.args.counts) (flipped (field_of_lem c.in-Inner.r)) = rw (c.size_of-size.ensures, c.flip.ensures, c.field_of.ensures) at c.rows_of.ensures.0 in
    rw c.size_of-size.ensures (omega arith, omega arith, omega (arith, q, field_room c.args.counts c.requires.table (flipped (field_of_lem c.in-Inner.r)) (omega (arith, flip_lt c.args.counts c.requires.table c.in-Inner.r r))), few c.args.counts c.requires.table)

pub returns-in-Leaf : goal.returns-in-Leaf
returns-in-Leaf c = (refl, gave_leaf c.args.counts c.requires.table c.args.way c.args.rows.now c.args.p c.args.acc.now c.in-Leaf.is)

pub returns-in-Inner : goal.returns-in-Inner
returns-in-Inner c =
    let r = subst (RoleIn c.args.counts) c.in-Inner.is c.requires.role_in in
    let q : c.rows_of.result ≡ base (size_of c.args.counts) (flipped (field_of_lem c.in-Inner.r)) = rw (c.size_of-size.ensures, c.flip.ensures, c.field_of.ensures) at c.rows_of.ensures.0 in
    (c.compose.ensures.len, gave_inner c.args.counts c.requires.table c.args.way c.args.rows.now c.args.p c.args.acc.now c.in-Inner.r _ _ c.in-Inner.is r (rw (q, c.size_of-size.ensures) at c.compose.ensures))

pub returns-in-Every : goal.returns-in-Every
returns-in-Every c = (c.meet.ensures.len, gave_every c.args.counts c.requires.table c.args.way c.args.rows.now c.args.p c.args.acc.now _ _ c.in-Every.is (record { len = c.meet.ensures.len; row = c.meet.ensures.all }))

pub returns-in-Any : goal.returns-in-Any
returns-in-Any c = (c.gather.ensures.len, gave_any c.args.counts c.requires.table c.args.way c.args.rows.now c.args.p c.args.acc.now _ _ c.in-Any.is c.gather.ensures)
