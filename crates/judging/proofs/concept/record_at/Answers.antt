use Rattle.tables.proofs.Open.{open_read, open_refused}
use Rattle.judging.proofs.concept.record_at.Goals as goal

pub returns-in_default : goal.returns-in_default
returns-in_default c = open_refused c.args.book.opened c.args.k c.requires.k_lt_concepts _ c.concept_at.ensures _ c.in_default.is

pub returns : goal.returns
returns c = open_read c.args.book.opened c.args.k c.requires.k_lt_concepts _ c.concept_at.ensures _ _ c.in-Ok.is
