use Rattle.derivation.proofs.Noting.{denial_end, denial_next}
use Rattle.derivation.proofs.denied.denies_at.Goals as goal

pub returns-in_default : goal.returns-in_default
returns-in_default c = denial_end c.args.book.now c.args.counts c.args.at c.next_statement-turn.ensures c.in_default.is

pub returns : goal.returns
returns c = denial_next c.args.book.now c.args.counts c.args.at c.next_statement-turn.ensures c.in-Some.is c.is_denial.ensures
