-- `put_statement` adds the bytes of statement i. Assumes nothing.
use mathlib.Core.Path.{refl}
use native.Mathlib.Omega.{arith}
use borrow.Author.Rules.{rules}
use Rattle.small.proofs.Statements.{statement_at_short, row_bytes_lem}
use Rattle.small.proofs.statement.put_statement.Goals as goal

pub put_row-requires : goal.put_row-requires
put_row-requires c = rw (c.row_at.ensures, row_bytes_lem c.args.i (search rules)) (omega (arith, statement_at_short c.args.i (search rules)))

pub returns : goal.returns
returns c = rw (c.put_row.ensures, c.row_at.ensures, row_bytes_lem c.args.i (search rules)) refl
