use lib.ListN.{length}
use Rattle.writer.specs.Record.{ats, sizes}
use Rattle.writer.proofs.Over.{laid_all}
use Rattle.writer.proofs.lay.lay_out.Goals as goal

pub returns : goal.returns
returns c = laid_all c.args.book.now (ats c.args.kept.now) (sizes c.args.kept.now) c.args.out.now _ _ _ c.args.front c.args.start (length c.args.kept.now) c.requires.stand c.requires.front_le_start.0 c.requires.front_le_start.1 c.requires.front_le_start.2 c.requires.front_le_start.3 c.lay_header.ensures c.put.ensures c.lay_records.ensures
