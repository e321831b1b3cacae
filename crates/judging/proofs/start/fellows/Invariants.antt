use Rattle.judging.specs.Memo.{Fellows}
use Rattle.judging.proofs.start.fellows.Given as goal

abbrev pub invariant-loop-l : goal.invariant-loop-l
invariant-loop-l l = Fellows l.g l.b l.l l.initial.acc l.acc
