use native.Mathlib.Omega.{arith}
use mathlib.Core.Path.{sym}
use Rattle.book.specs.Book.{decode}
use Rattle.book.proofs.Accepted.{accepted_limits}
use Rattle.book.proofs.Short.{short_concepts}
use Rattle.saturation.proofs.saturate.Answers.{refused_first}
use Rattle.whatif.proofs.Prospects.{alone_effect, stops_left}
use Rattle.whatif.proofs.what_if.run.Goals as goal

pub returns-in_err-admit-clause-effect : goal.returns-in_err-admit-clause-effect
returns-in_err-admit-clause-effect c = stops_left _ _ c.from_residual.ensures.1 (alone_effect _ _ _ _ _ _ _ _ _ c.before.before.in_err-admit.field-0.0 (sym (refused_first c.admit.ensures c.in_err-admit.was (decode c.args.book.now) _)))

pub run_in-requires-clause-in_bounds : goal.run_in-requires-clause-in_bounds
run_in-requires-clause-in_bounds c = λ B d. omega (arith, short_concepts _ B d, c.if-book-le128.true)

pub run_in-requires-2-clause-in_bounds : goal.run_in-requires-2-clause-in_bounds
run_in-requires-2-clause-in_bounds c = λ B d. (accepted_limits _ B d).concepts_top
