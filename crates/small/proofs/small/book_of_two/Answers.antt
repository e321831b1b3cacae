-- `book_of_two` is the book of two statements. Assumes nothing.
use native.Mathlib.Omega.{arith}
use Rattle.book.specs.Bytes.{header_bytes, statement_bytes}
use Rattle.small.specs.Statements.{statement_at_lem}
use Rattle.small.specs.Laying.{laid}
use Rattle.small.proofs.Statements.{statement_at_short}
use Rattle.small.proofs.Laying.{front, added_length, laid_two}
use borrow.Author.Rules.{rules}
use Rattle.small.proofs.small.book_of_two.Goals as goal

pub put_statement-requires : goal.put_statement-requires
unfolding header_bytes
put_statement-requires c = rw c.front-book.ensures (search rules, omega arith)

pub put_statement-requires-2 : goal.put_statement-requires-2
unfolding header_bytes
put_statement-requires-2 c =
    let short = statement_at_short c.args.i (search rules) in
    rw (c.put_statement.ensures, c.front-book.ensures) (search rules, omega (arith, added_length (laid (front 2)) (statement_bytes (statement_at_lem c.args.i))))

pub returns : goal.returns
returns c = rw (c.put_statement-2.ensures, c.put_statement.ensures, c.front-book.ensures) (laid_two (statement_at_lem c.args.i) (statement_at_lem c.args.j) (statement_at_short c.args.i (search rules)) (statement_at_short c.args.j (search rules)))
