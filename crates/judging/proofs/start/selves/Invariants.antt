use Rattle.judging.specs.Memo.{Selves}
use Rattle.judging.proofs.start.selves.Given as goal

abbrev pub invariant-loop-i : goal.invariant-loop-i
invariant-loop-i l = Selves l.t l.first l.i l.initial.acc l.acc
