use Rattle.judging.proofs.Starting.{row_there, row_not}
use Rattle.judging.proofs.start.put_row.Goals as goal

pub returns-then-member : goal.returns-then-member
returns-then-member c = row_there c.member.ensures c.if-member.true c.gather.ensures

pub returns-else-member : goal.returns-else-member
returns-else-member c = row_not c.member.ensures c.if-member.false
