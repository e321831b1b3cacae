-- `check_book` meets its contract: one law for each way out.
use mathlib.Core.Path.{refl}
use Rattle.book.proofs.Stops.{read_stops}
use Rattle.book.proofs.check.Ways.{book_headless, book_concepts, book_statements, book_longer, book_accepted, left_headless, left_counted}
use Rattle.book.proofs.check.check_book.Goals as goal

pub returns-in_err-counts : goal.returns-in_err-counts
returns-in_err-counts c = record { book_checked = book_headless _ _ _ _ (read_stops _ _ c.from_residual.ensures.1) c.in_err-counts.ensures; offsets_left = left_headless _ _ _ c.in_err-counts.ensures }

pub returns-in_err-then : goal.returns-in_err-then
returns-in_err-then c = record { book_checked = book_concepts _ _ _ _ (read_stops _ _ c.from_residual-in_err-then.ensures.1) _ _ c.in_ok-counts.ensures _ c.in_err-then.ensures.concepts_passed refl; offsets_left = left_counted _ _ _ _ _ c.in_ok-counts.ensures c.concepts_at.ensures.concepts_left }

pub returns-in_err-end : goal.returns-in_err-end
returns-in_err-end c = record { book_checked = book_statements _ _ _ _ (read_stops _ _ c.from_residual-in_err-end.ensures.1) _ _ c.in_ok-counts.ensures _ c.in_ok-then.ensures.concepts_passed c.in_err-end.ensures; offsets_left = left_counted _ _ _ _ _ c.in_ok-counts.ensures c.concepts_at.ensures.concepts_left }

pub returns-then-end-book : goal.returns-then-end-book
returns-then-end-book c = record { book_checked = book_longer _ _ _ _ c.in_ok-counts.ensures _ c.in_ok-then.ensures.concepts_passed _ c.in_ok-end.ensures c.if-end-book.true; offsets_left = left_counted _ _ _ _ _ c.in_ok-counts.ensures c.concepts_at.ensures.concepts_left }

pub returns : goal.returns
returns c = record { book_checked = book_accepted _ _ _ _ c.in_ok-counts.ensures _ c.in_ok-then.ensures.concepts_passed _ c.in_ok-end.ensures c.if-end-book.false; offsets_left = left_counted _ _ _ _ _ c.in_ok-counts.ensures c.concepts_at.ensures.concepts_left }
