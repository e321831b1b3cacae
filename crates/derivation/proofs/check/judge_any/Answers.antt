use native.Mathlib.Omega.{arith}
use Rattle.tables.proofs.Open.{checked_open, checked_rest}
use Rattle.derivation.proofs.Preparing.{judged_refused, judged_stops, judged_of, checked_few}
use Rattle.derivation.proofs.check.judge_any.Goals as goal

pub invariant_of-open : goal.invariant_of-open
invariant_of-open c = record { opened = checked_open c.check_book.ensures.book_checked c.in_ok-counts.was (omega (arith, checked_few c.check_book.ensures.book_checked c.in_ok-counts.was, c.requires, c.offsets-1.given)) }

pub judge_book-requires : goal.judge_book-requires
judge_book-requires c = record { from_value = checked_rest c.check_book.ensures.book_checked c.in_ok-counts.was }

pub returns-in_err-counts : goal.returns-in_err-counts
returns-in_err-counts c = judged_stops _ _ c.from_residual.ensures.1 (judged_refused c.args.rows.now c.check_book.ensures.book_checked c.in_err-counts.was)

pub returns : goal.returns
returns c = judged_of c.args.rows.now (checked_open c.check_book.ensures.book_checked c.in_ok-counts.was (omega (arith, checked_few c.check_book.ensures.book_checked c.in_ok-counts.was, c.requires, c.offsets-1.given))) c.judge_book.ensures
