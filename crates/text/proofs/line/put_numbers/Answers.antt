-- `put_numbers` has written the numbers that it has passed, each in at most 11 bytes.
use borrow.Author.Rules.{rules}
use mathlib.Core.Path.{◌≡◌, refl}
use native.Mathlib.Omega.{arith}
use lib.ListN.{length}
use Rattle.verdict.proofs.list.Writing.{written_none, written_as}
use Rattle.text.proofs.Puts.{gather_more}
use Rattle.text.proofs.line.put_numbers.Goals as goal

pub loop-n-init : goal.loop-n-init
loop-n-init c = (search rules, written_none)

pub put_number-here-requires : goal.put_number-here-requires
put_number-here-requires c = omega (arith, c.loop-n.invariant.1.len)

pub loop-n-preserved : goal.loop-n-preserved
loop-n-preserved c = (omega arith, gather_more _ c.loop-n.n-index c.loop-n.invariant.1 c.put_number-here.ensures.written)

pub returns : goal.returns
returns c = let e : c.loop-n.n-index ≡ length c.args.list.now = omega arith in record { written = written_as (rw e refl) c.loop-n.invariant.1; upper_bound = omega arith }
