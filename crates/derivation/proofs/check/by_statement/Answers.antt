use Rattle.tables.specs.Open.{book_of}
use Rattle.derivation.proofs.Checking.{statement_past, statement_end_law, statement_within, statement_one, statement_other}
use Rattle.derivation.proofs.check.by_statement.Goals as goal

pub returns-then-k-book : goal.returns-then-k-book
returns-then-k-book c = statement_past c.requires c.args.row c.args.f c.args.p c.if-k-book.true

pub returns-in_default : goal.returns-in_default
returns-in_default c = statement_end_law c.requires c.args.row c.args.f c.args.p c.if-k-book.false c.next_statement-turn.ensures c.in_default.is

pub order_fits-requires : goal.order_fits-requires
order_fits-requires c = record { concepts = c.requires.concepts; within = statement_within c.requires c.args.row c.args.f c.args.p c.if-k-book.false c.next_statement-turn.ensures c.in-Some.is }

pub returns-then-rule_number-row : goal.returns-then-rule_number-row
returns-then-rule_number-row c = statement_one c.requires c.args.row c.args.f c.args.p c.if-k-book.false c.next_statement-turn.ensures c.in-Some.is c.rule_number.ensures c.if-rule_number-row.true (c.order_fits.ensures (book_of c.args.book.bytes.now) c.requires.of)

pub returns : goal.returns
returns c = statement_other c.requires c.args.row c.args.f c.args.p c.if-k-book.false c.next_statement-turn.ensures c.in-Some.is c.rule_number.ensures c.if-rule_number-row.false
