use native.Mathlib.Omega.{arith}
use Rattle.rounds.proofs.Facts.{open_sized}
use Rattle.saturation.proofs.allot.Words.{most_rows, small_holding, large_holding}
use Rattle.tables.proofs.Open.{open_limits}
use Rattle.listing.proofs.join.count_checked.Goals as goal

pub wanted-requires : goal.wanted-requires
wanted-requires c = open_sized c.args.book.opened

pub count_in-requires : goal.count_in-requires
count_in-requires c =
    let s = c.wanted.ensures.small c.if-wanted-eq0.true in
    record { from_value = c.requires.from_value; used_value = c.requires.used_value; takers = (omega (arith, s.concepts), omega arith); enough = small_holding s (c.wanted.ensures.tiny c.if-wanted-eq0.true) }

pub count_in-requires-2 : goal.count_in-requires-2
count_in-requires-2 c =
    let h = open_limits c.args.book.opened in
    record { from_value = c.requires.from_value; used_value = c.requires.used_value; takers = (omega (arith, h.concepts_top), omega arith); enough = large_holding h (omega (arith, most_rows _ h)) (omega arith) }
