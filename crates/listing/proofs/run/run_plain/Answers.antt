use native.Mathlib.Omega.{arith}
use Rattle.listing.proofs.Running.{fit_many}
use Rattle.listing.proofs.run.run_plain.Goals as goal

pub run_with-requires : goal.run_with-requires
run_with-requires c = (c.has_few_pairs.ensures c.if-has_few_pairs.true, omega arith)

pub run_with-requires-2 : goal.run_with-requires-2
run_with-requires-2 c = (fit_many c.args.book.now, omega arith)
