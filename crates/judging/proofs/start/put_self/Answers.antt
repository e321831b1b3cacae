use Rattle.judging.proofs.Starting.{self_there, self_not}
use Rattle.judging.proofs.start.put_self.Goals as goal

pub returns-then-member : goal.returns-then-member
returns-then-member c = self_there c.member.ensures c.if-member.true c.insert.ensures

pub returns-else-member : goal.returns-else-member
returns-else-member c = self_not c.member.ensures c.if-member.false
