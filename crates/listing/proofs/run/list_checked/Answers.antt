use Rattle.rounds.proofs.Facts.{open_sized}
use Rattle.listing.proofs.Words.{few_holding, many_holding}
use Rattle.tables.proofs.Open.{open_limits}
use Rattle.listing.proofs.run.list_checked.Goals as goal

pub wanted-requires : goal.wanted-requires
wanted-requires c = open_sized c.args.book.opened

pub list_with-requires : goal.list_with-requires
list_with-requires c = record { from_value = c.requires.from_value; ran = c.requires.ran; enough = few_holding (c.wanted.ensures.small c.if-wanted-eq0.true) (c.wanted.ensures.tiny c.if-wanted-eq0.true) }

pub list_with-requires-else-wanted-eq0 : goal.list_with-requires-else-wanted-eq0
list_with-requires-else-wanted-eq0 c = record { from_value = c.requires.from_value; ran = c.requires.ran; enough = many_holding (open_limits c.args.book.opened) }
