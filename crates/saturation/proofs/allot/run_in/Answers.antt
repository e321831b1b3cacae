use Rattle.heed.specs.Names.{reader_of}
use Rattle.saturation.specs.Run.{heard_book}
use Rattle.saturation.proofs.run.Closing.{heard_inside}
use Rattle.saturation.proofs.allot.Words.{fresh_of}
use Rattle.saturation.proofs.allot.run_in.Goals as goal

pub draw-drawn-requires-clause-fresh : goal.draw-drawn-requires-clause-fresh
draw-drawn-requires-clause-fresh g c = fresh_of c.requires.enough

pub read_off-requires-clause-inside : goal.read_off-requires-clause-inside
read_off-requires-clause-inside g c = let r = reader_of c.args.names in (heard_book r c.args.book.bytes.now, heard_inside r c.args.book.opened, c.args.book.opened.counts, c.draw-drawn.ensures.drawn)

pub returns-clause-outcome : goal.returns-clause-outcome
returns-clause-outcome g c = let r = reader_of c.args.names in c.read_off.ensures.outcome (heard_book r c.args.book.bytes.now) (heard_inside r c.args.book.opened) c.args.book.opened.counts c.draw-drawn.ensures.drawn
