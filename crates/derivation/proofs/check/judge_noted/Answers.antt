use Rattle.tables.proofs.Open.{open_limits, open_statements}
use Rattle.derivation.proofs.check.judge_noted.Goals as goal

pub fill_denied-known-requires : goal.fill_denied-known-requires
fill_denied-known-requires c = record { limits = (open_limits c.requires.stated.opened, c.requires.stated.labels_room); labels_of = c.requires.stated.labels; statements_in_bounds = (c.requires.stated.starts_room, open_statements c.requires.stated.opened); starts = c.requires.stated.starts; in_bounds = (c.requires.in_bounds.0, c.requires.in_bounds.1) }
