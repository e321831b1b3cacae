use native.Mathlib.Omega.{arith}
use lib.ListN.{length-set}
use Rattle.verdict.proofs.list.Writing.{written_two}
use Rattle.verdict.proofs.list.put_two.Goals as goal

pub bounds-list-at-2 : goal.bounds-list-at-2
bounds-list-at-2 c = simp length-set (omega arith)

pub returns : goal.returns
returns c = written_two _ _ _ _ c.requires.0
