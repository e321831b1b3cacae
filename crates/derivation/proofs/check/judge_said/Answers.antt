use Rattle.tables.proofs.Open.{open_limits, open_statements}
use Rattle.derivation.proofs.Noting.{nothing_denied}
use Rattle.derivation.proofs.check.judge_said.Goals as goal

pub any_denial-requires : goal.any_denial-requires
any_denial-requires c = record { limits = open_limits c.requires.opened; statements_in_bounds = (c.requires.starts_room, open_statements c.requires.opened); starts = c.requires.starts }

pub judge_stated-requires : goal.judge_stated-requires
judge_stated-requires c = record { stated = c.requires; denied = nothing_denied c.args.book.bytes.now 8 c.any_denial.ensures c.if-any_denial.false }
