-- `book_of_one` is the book of one statement. Assumes nothing.
use native.Mathlib.Omega.{arith}
use Rattle.book.specs.Bytes.{header_bytes}
use Rattle.small.specs.Statements.{statement_at_lem}
use Rattle.small.proofs.Statements.{statement_at_short}
use Rattle.small.proofs.Laying.{laid_one}
use borrow.Author.Rules.{rules}
use Rattle.small.proofs.small.book_of_one.Goals as goal

pub put_statement-requires : goal.put_statement-requires
unfolding header_bytes
put_statement-requires c = rw c.front-book.ensures (search rules, omega arith)

pub returns : goal.returns
returns c = rw (c.put_statement.ensures, c.front-book.ensures) (laid_one (statement_at_lem c.args.i) (statement_at_short c.args.i (search rules)))
