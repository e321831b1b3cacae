use Rattle.listing.proofs.Telling.{told_put, told_skip}
use Rattle.listing.proofs.tell.tell_one.Goals as goal

pub returns-then-labels-i : goal.returns-then-labels-i
returns-then-labels-i c = told_put c.if-labels-i.true c.insert.ensures

pub returns-else-labels-i : goal.returns-else-labels-i
returns-else-labels-i c = told_skip c.args.j c.args.t.now c.if-labels-i.false
