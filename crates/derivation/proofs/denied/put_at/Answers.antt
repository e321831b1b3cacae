use mathlib.Core.Path.{sym, ◌∙◌}
use Rattle.book.proofs.reader.Laws.{turn_within}
use Rattle.tables.specs.Open.{book_of}
use Rattle.derivation.proofs.Noting.{put_end_lem, put_next}
use Rattle.derivation.proofs.denied.put_at.Goals as goal

pub returns-in_default : goal.returns-in_default
returns-in_default c = put_end_lem c.args.book.now c.args.counts c.args.at c.next_statement-turn.ensures c.in_default.is

pub put_denied-requires : goal.put_denied-requires
put_denied-requires c = record { limits = (c.requires.limits.0, c.requires.limits.1, (turn_within _ _ _ _ _ (sym c.next_statement-turn.ensures ∙ c.in-Some.is)).body); in_bounds = c.requires.in_bounds }

pub returns : goal.returns
returns c =
    put_next c.args.book.now c.args.counts c.args.at c.next_statement-turn.ensures
    c.in-Some.is c.put_denied.ensures.with_denied
    (c.put_denied.ensures.value (book_of c.args.book.now) c.requires.labels_of)
