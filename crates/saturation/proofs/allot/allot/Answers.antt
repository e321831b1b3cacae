use Rattle.saturation.proofs.allot.Words.{most_rows, tiny_holding, small_holding, large_holding}
use Rattle.rounds.proofs.Facts.{open_sized}
use Rattle.tables.proofs.Open.{open_limits}
use native.Mathlib.Omega.{arith}
use Rattle.saturation.proofs.allot.allot.Goals as goal

pub wanted-size-requires : goal.wanted-size-requires
wanted-size-requires c =
    open_sized c.args.book.opened

pub run_in-requires-clause-enough : goal.run_in-requires-clause-enough
run_in-requires-clause-enough c =
    tiny_holding (c.is_tiny.ensures c.if-is_tiny.true)

pub run_in-requires-then-size-eq0-clause-enough : goal.run_in-requires-then-size-eq0-clause-enough
run_in-requires-then-size-eq0-clause-enough c =
    small_holding (c.wanted-size.ensures.small c.if-size-eq0.true) (c.wanted-size.ensures.tiny c.if-size-eq0.true)

pub run_in-requires-then-size-eq1-clause-enough : goal.run_in-requires-then-size-eq1-clause-enough
run_in-requires-then-size-eq1-clause-enough c =
    large_holding (open_limits c.args.book.opened) (omega (arith, c.wanted-size.ensures.cache c.if-size-eq1.true)) (omega arith)

pub run_in-requires-then-size-eq2-clause-enough : goal.run_in-requires-then-size-eq2-clause-enough
run_in-requires-then-size-eq2-clause-enough c =
    large_holding (open_limits c.args.book.opened) (omega (arith, c.wanted-size.ensures.some c.if-size-eq2.true)) (omega arith)

pub run_in-requires-2-clause-enough : goal.run_in-requires-2-clause-enough
run_in-requires-2-clause-enough c =
    large_holding (open_limits c.args.book.opened) (omega (arith, most_rows _ (open_limits c.args.book.opened))) (omega arith)
