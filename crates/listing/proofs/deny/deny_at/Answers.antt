use mathlib.Core.Path.{sym, ◌∙◌}
use Rattle.std.proofs.Common.{None}
use Rattle.book.proofs.reader.Laws.{turn_within}
use Rattle.listing.proofs.Denials.{denial_end, denial_next}
use Rattle.listing.proofs.deny.deny_at.Goals as goal

pub returns-in_default : goal.returns-in_default
returns-in_default c = denial_end c.requires.listed _ None c.next_statement-turn.ensures c.in_default.is

pub deny-requires : goal.deny-requires
deny-requires c = record { listed = c.requires.listed; labels_of = c.requires.labels_of; individuals_in_bounds = (c.requires.individuals_in_bounds, (turn_within _ _ _ _ _ (sym c.next_statement-turn.ensures ∙ c.in-Some.is)).body) }

pub returns : goal.returns
returns c = denial_next c.requires.listed _ _ c.next_statement-turn.ensures c.in-Some.is c.deny.ensures
