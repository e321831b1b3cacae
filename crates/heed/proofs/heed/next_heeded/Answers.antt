-- `next_heeded` meets its contract. Where no one is named and no day, every statement counts.
use Rattle.heed.proofs.Laws.{came_start, came_behind, step_all, heeded_all}
use Rattle.heed.proofs.heed.next_heeded.Goals as goal

pub returns-then-at-book : goal.returns-then-at-book
returns-then-at-book c = step_all _ _ _ _ (heeded_all _ c.if-is_some.ensures c.if-is_some-2.ensures) _ c.next_statement.ensures

pub returns : goal.returns
returns c = came_behind _ _ _ _ _ (came_start _ _ _ _) c.if-at-book.false
