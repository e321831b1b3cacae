use Rattle.judging.specs.Memo.{Further}
use Rattle.judging.proofs.concept.shown.Given as goal

abbrev pub invariant-loop-j : goal.invariant-loop-j
invariant-loop-j l = Further l.book.bytes.now l.book.counts l.t l.groups l.initial.rows l.initial.done l.rows l.done
