use Rattle.rows.specs.Row.{has}
use Rattle.rules.specs.Fact.{three}
use Rattle.rules.specs.Lists.{entries3}
use Rattle.verdict.proofs.list.Words.{Bits}
use Rattle.verdict.proofs.list.list_edges_word.Given as goal

abbrev pub invariant-loop-j : goal.invariant-loop-j
invariant-loop-j l = Bits entries3 (has l.t l.k) (three l.role l.first) l.from l.n l.initial.list l.at l.j-iterator.word l.list l.i
