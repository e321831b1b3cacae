use Rattle.derivation.proofs.Pairing.{spread_row, spread_none}
use Rattle.derivation.proofs.pair.spread_one.Goals as goal

pub returns-then-member : goal.returns-then-member
returns-then-member c = spread_row c.args.takers.now c.args.k c.member.ensures c.if-member.true c.gather.ensures

pub returns-else-member : goal.returns-else-member
returns-else-member c = spread_none c.args.acc.now c.args.takers.now c.args.k c.member.ensures c.if-member.false
