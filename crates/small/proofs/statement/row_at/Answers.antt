-- `row_at` answers the row of statement i: the table is computed from the statements and compared. Assumes nothing.
use native.Mathlib.Omega.{arith}
use Rattle.book.specs.Role.{role_of_lem}
use Rattle.book.specs.Statement.{axiom_of_lem, path_of_lem}
use Rattle.small.specs.Statements.{small_statements, spare}
use Rattle.small.specs.Laying.{row_of}
use Rattle.small.proofs.Statements.{statements_count, row_at_lem}
use Rattle.small.proofs.statement.row_at.Goals as goal

pub returns : goal.returns
unfolding small_statements axiom_of_lem path_of_lem role_of_lem row_of
returns c = row_at_lem spare small_statements c.args.i (omega (arith, statements_count))
