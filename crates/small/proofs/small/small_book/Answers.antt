-- `small_book` answers the entry at the position, by the number of its statements. Assumes nothing.
use mathlib.Core.Path.{refl}
use Rattle.small.proofs.Places.{empty, stands_one, stands_two, stands_entry, past_none}
use borrow.Author.Rules.{rules}
use Rattle.small.proofs.small.small_book.Goals as goal

pub returns-then-position-eq0 : goal.returns-then-position-eq0
returns-then-position-eq0 c = rw c.bare.ensures (rw (c.if-position-eq0.true, stands_entry 0 _ empty) refl)

pub returns-then-position-le73 : goal.returns-then-position-le73
returns-then-position-le73 c = rw (c.book_of_one.ensures, stands_entry c.args.position _ (stands_one c.args.position (search rules) (search rules))) refl

pub returns-then-position-lt5403 : goal.returns-then-position-lt5403
returns-then-position-lt5403 c = rw (c.book_of_two.ensures, stands_entry c.args.position _ (stands_two c.args.position (search rules) (search rules))) refl

pub returns : goal.returns
returns c = rw (past_none c.args.position (search rules)) refl
