use native.Mathlib.Omega.{arith}
use Rattle.writer.proofs.Parts.{located_limits}
use Rattle.writer.proofs.write.write_accepted.Goals as goal

pub write_in-requires-2-clause-room : goal.write_in-requires-2-clause-room
write_in-requires-2-clause-room c = let lim = located_limits c.requires in (omega (arith, lim.statements_top), omega (arith, lim.statements_top), omega arith, omega arith)
