use Rattle.rows.specs.Row.{has}
use Rattle.rules.specs.Fact.{two}
use Rattle.rules.specs.Lists.{entries2}
use Rattle.verdict.proofs.list.Words.{Bits}
use Rattle.verdict.proofs.list.list_word.Given as goal

abbrev pub invariant-loop-j : goal.invariant-loop-j
invariant-loop-j l = Bits entries2 (has l.t l.k) (two l.first) l.from l.n l.initial.list l.at l.j-iterator.word l.list l.i
