-- `put_lines` has written the lines of the entries that it has passed.
use borrow.Author.Rules.{rules}
use Prim.Native.Nat.{◌/◌}
use mathlib.Core.Path.{◌≡◌}
use native.Mathlib.Omega.{arith}
use native.Mathlib.Nat.{div-mul-le_self, div-le_self}
use lib.ListN.{length}
use Rattle.text.proofs.line.Lined.{lined_none, lined_within, line_entries, lined_more, lined_all}
use Rattle.text.proofs.line.put_lines.Goals as goal

pub loop-k-init : goal.loop-k-init
loop-k-init c = (search rules, lined_none _ _ _)

pub overflow_add-to : goal.overflow_add-to
overflow_add-to c = let h = lined_within (length c.args.list.now) c.args.w c.loop-k.k c.requires.w_nonzero.0 c.loop-k.invariant.1.place c.loop-k-test.true in search rules

pub offset_bounds-list-from : goal.offset_bounds-list-from
offset_bounds-list-from c = let h = lined_within (length c.args.list.now) c.args.w c.loop-k.k c.requires.w_nonzero.0 c.loop-k.invariant.1.place c.loop-k-test.true in search rules

pub put_line-here-requires : goal.put_line-here-requires
put_line-here-requires c =
    let h = lined_within (length c.args.list.now) c.args.w c.loop-k.k c.requires.w_nonzero.0 c.loop-k.invariant.1.place c.loop-k-test.true in
    omega (arith, line_entries c.args.list.now c.loop-k.from c.args.w h, c.loop-k.invariant.1.room, c.loop-k.invariant.1.written.len, c.requires.w_nonzero.1)

pub overflow_step-k : goal.overflow_step-k
overflow_step-k c = omega (arith, div-le_self (length c.args.list.now) c.args.w)

pub loop-k-preserved : goal.loop-k-preserved
loop-k-preserved c =
    let h = lined_within (length c.args.list.now) c.args.w c.loop-k.k c.requires.w_nonzero.0 c.loop-k.invariant.1.place c.loop-k-test.true in
    (search rules, lined_more c.loop-k.invariant.1 c.put_line-here.ensures.written (omega (arith, c.put_line-here.ensures.upper_bound, c.requires.w_nonzero.1, line_entries c.args.list.now c.loop-k.from c.args.w h)))

pub shape_of-out : goal.shape_of-out
shape_of-out c = c.loop-k.invariant.1.written.len

pub returns : goal.returns
returns c = let e : c.loop-k.k ≡ length c.args.list.now / c.args.w = omega arith in record { written = lined_all c.loop-k.invariant.1 e; upper_bound = omega (arith, c.loop-k.invariant.1.room, c.loop-k.invariant.1.place, rw (← e) at (div-mul-le_self (length c.args.list.now) c.args.w)) }
