use Prim.Native.Nat.{◌-◌, ◌+◌, ◌*◌}
use native.Mathlib.Omega.{arith}
use mathlib.Core.Path.{◌≡◌, refl, subst}
use Rattle.rows.specs.Table.{base}
use Rattle.book.specs.Role.{field_of_lem}
use Rattle.book.specs.declared.concept.ConceptExpr.TheVariants.{Top, Bot, Not, And, Or, Some, All, Min, Max}
use Rattle.tables.specs.Open.{size_of}
use Rattle.judging.specs.Way.{StartIn}
use Rattle.judging.proofs.Starting.{few, field_lt, field_room, class_room, started_none, started_every, started_class, started_group, started_self}
use Rattle.judging.proofs.start.begin.Goals as goal

pub class_field-requires : goal.class_field-requires
class_field-requires c = rw c.size_of-size.ensures c.requires.laid.table.sized

pub row_of-requires : goal.row_of-requires
row_of-requires c =
    let w = subst (StartIn c.args.counts) c.in-Atomic.is c.requires.start_in in
    let q : c.class_field.result ≡ 2 * c.args.counts.roles + 2 - 1 = rw c.size_of-size.ensures at c.class_field.ensures in
    rw c.size_of-size.ensures (c.requires.laid.table.sized, omega (arith, q), omega (arith, w, c.requires.laid.table.sized.classes))

pub gather-requires : goal.gather-requires
gather-requires c =
    let w = subst (StartIn c.args.counts) c.in-Atomic.is c.requires.start_in in
    let q : c.row_of.result ≡ base (size_of c.args.counts) (2 * c.args.counts.roles + 2 - 1) + c.in-Atomic.c = rw (rw c.size_of-size.ensures at c.class_field.ensures, c.size_of-size.ensures) at c.row_of.ensures.0 in
    (omega arith, omega (arith, q, class_room c.args.counts c.requires.laid.table c.in-Atomic.c w))

pub fellows-requires : goal.fellows-requires
fellows-requires c =
    let w = subst (StartIn c.args.counts) c.in-Nominal.is c.requires.start_in in
    rw c.size_of-size.ensures (omega arith, omega (arith, c.requires.laid.groups), omega (arith, w, few c.args.counts c.requires.laid.table), few c.args.counts c.requires.laid.table)

pub rows_of-requires : goal.rows_of-requires
rows_of-requires c =
    let w = subst (StartIn c.args.counts) c.in-SelfRestriction.is c.requires.start_in in
    rw c.size_of-size.ensures (c.requires.laid.table.sized, omega (arith, c.field_of.ensures, field_lt c.args.counts c.requires.laid.table c.in-SelfRestriction.r w))

pub selves-requires : goal.selves-requires
selves-requires c =
    let w = subst (StartIn c.args.counts) c.in-SelfRestriction.is c.requires.start_in in
    let q : c.rows_of.result ≡ base (size_of c.args.counts) (field_of_lem c.in-SelfRestriction.r) = rw (c.size_of-size.ensures, c.field_of.ensures) at c.rows_of.ensures.0 in
    rw c.size_of-size.ensures (omega arith, omega (arith, q, field_room c.args.counts c.requires.laid.table (field_of_lem c.in-SelfRestriction.r) (omega (arith, field_lt c.args.counts c.requires.laid.table c.in-SelfRestriction.r w))), few c.args.counts c.requires.laid.table, omega (arith, c.rows_of.ensures.1))

pub returns-in-Top : goal.returns-in-Top
returns-in-Top c = (c.fill.ensures.len, started_every c.args.counts c.requires.laid.table c.args.groups.now c.args.acc.now c.requires.empty Top c.in-Top.is (λ i. refl) c.fill.ensures)

pub returns-in-Bot : goal.returns-in-Bot
returns-in-Bot c = (refl, started_none c.args.counts c.requires.laid.table c.args.groups.now c.args.acc.now c.requires.empty Bot c.in-Bot.is (λ i. refl))

pub returns-in-Atomic : goal.returns-in-Atomic
returns-in-Atomic c =
    let w = subst (StartIn c.args.counts) c.in-Atomic.is c.requires.start_in in
    (c.gather.ensures.len, started_class c.args.counts c.requires.laid.table c.args.groups.now c.args.acc.now c.requires.empty c.in-Atomic.c c.in-Atomic.is w (rw (rw (rw c.size_of-size.ensures at c.class_field.ensures, c.size_of-size.ensures) at c.row_of.ensures.0) at c.gather.ensures))

pub returns-in-Nominal : goal.returns-in-Nominal
returns-in-Nominal c =
    let w = subst (StartIn c.args.counts) c.in-Nominal.is c.requires.start_in in
    (c.fellows.ensures.len, started_group c.args.counts c.requires.laid.table c.args.groups.now c.args.acc.now c.requires.empty c.in-Nominal.b c.in-Nominal.is (rw c.size_of-size.ensures at c.fellows.ensures))

pub returns-in-SelfRestriction : goal.returns-in-SelfRestriction
returns-in-SelfRestriction c =
    let w = subst (StartIn c.args.counts) c.in-SelfRestriction.is c.requires.start_in in
    let q : c.rows_of.result ≡ base (size_of c.args.counts) (field_of_lem c.in-SelfRestriction.r) = rw (c.size_of-size.ensures, c.field_of.ensures) at c.rows_of.ensures.0 in
    (c.selves.ensures.len, started_self c.args.counts c.requires.laid.table c.args.groups.now c.args.acc.now c.requires.empty c.in-SelfRestriction.r c.in-SelfRestriction.is w (rw (q, c.size_of-size.ensures) at c.selves.ensures))

pub returns-in-Not : goal.returns-in-Not
returns-in-Not c = (refl, started_none c.args.counts c.requires.laid.table c.args.groups.now c.args.acc.now c.requires.empty (Not c.in-Not.field-0) c.in-Not.is (λ i. refl))

pub returns-in-And : goal.returns-in-And
returns-in-And c = (c.fill-in-And.ensures.len, started_every c.args.counts c.requires.laid.table c.args.groups.now c.args.acc.now c.requires.empty (And c.in-And.field-0) c.in-And.is (λ i. refl) c.fill-in-And.ensures)

pub returns-in-Or : goal.returns-in-Or
returns-in-Or c = (refl, started_none c.args.counts c.requires.laid.table c.args.groups.now c.args.acc.now c.requires.empty (Or c.in-Or.field-0) c.in-Or.is (λ i. refl))

pub returns-in-Some : goal.returns-in-Some
returns-in-Some c = (refl, started_none c.args.counts c.requires.laid.table c.args.groups.now c.args.acc.now c.requires.empty (Some c.in-Some.field-0 c.in-Some.field-1) c.in-Some.is (λ i. refl))

pub returns-in-All : goal.returns-in-All
returns-in-All c = (refl, started_none c.args.counts c.requires.laid.table c.args.groups.now c.args.acc.now c.requires.empty (All c.in-All.field-0 c.in-All.field-1) c.in-All.is (λ i. refl))

pub returns-in-Min : goal.returns-in-Min
returns-in-Min c = (refl, started_none c.args.counts c.requires.laid.table c.args.groups.now c.args.acc.now c.requires.empty (Min c.in-Min.field-0 c.in-Min.field-1 c.in-Min.field-2) c.in-Min.is (λ i. refl))

pub returns-in-Max : goal.returns-in-Max
returns-in-Max c = (refl, started_none c.args.counts c.requires.laid.table c.args.groups.now c.args.acc.now c.requires.empty (Max c.in-Max.field-0 c.in-Max.field-1 c.in-Max.field-2) c.in-Max.is (λ i. refl))
