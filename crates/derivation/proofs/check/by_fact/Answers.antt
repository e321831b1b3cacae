use mathlib.Core.Path.{refl, sym, ◌∙◌}
use Rattle.tables.specs.Open.{book_of}
use Rattle.derivation.proofs.check.by_fact.Goals as goal

pub returns-then-by_statement : goal.returns-then-by_statement
returns-then-by_statement c = rw (sym c.by_statement.ensures ∙ c.if-by_statement.true) refl

pub returns : goal.returns
returns c = rw (sym c.by_statement.ensures ∙ c.if-by_statement.false) (c.by_sharing.ensures (book_of c.args.book.bytes.now) c.requires.individuals_in_bounds.1)
