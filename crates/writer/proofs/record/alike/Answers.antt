use native.Mathlib.Omega.{arith}
use Rattle.writer.proofs.Matching.{matched}
use Rattle.writer.proofs.record.alike.Goals as goal

pub returns : goal.returns
returns c = matched c.args.book.now c.args.a.at c.args.a.size c.args.b.at c.args.b.size c.eq.result (omega arith) (omega arith) c.eq.ensures
