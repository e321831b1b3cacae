use Rattle.listing.proofs.Counting.{joined_back, joined_apart, joined_told}
use Rattle.listing.proofs.join.is_joining.Goals as goal

pub returns-then-i-j : goal.returns-then-i-j
returns-then-i-j c = joined_back c.args.told.now c.args.labels.now c.args.i c.args.j c.if-i-j.true

pub returns-then-labels-i : goal.returns-then-labels-i
returns-then-labels-i c = joined_apart c.args.told.now c.args.labels.now c.args.i c.args.j c.if-labels-i.true

pub returns : goal.returns
returns c = joined_told c.args.told.now c.args.labels.now c.args.i c.args.j c.if-i-j.false c.if-labels-i.false
