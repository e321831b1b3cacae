use Rattle.derivation.proofs.Claims.{pair_yes, pair_third, pair_second, pair_first}
use Rattle.derivation.proofs.row.pair_claim.Goals as goal

pub returns-then-row-eq-NONE : goal.returns-then-row-eq-NONE
returns-then-row-eq-NONE c = pair_yes c.args.counts c.args.row _ c.if-row.true c.if-row-counts.true c.if-row-eq-NONE.true c.pair_of.ensures

pub returns-else-row-eq-NONE : goal.returns-else-row-eq-NONE
returns-else-row-eq-NONE c = pair_third c.args.counts c.args.row c.if-row.true c.if-row-counts.true c.if-row-eq-NONE.false

pub returns-else-row-counts : goal.returns-else-row-counts
returns-else-row-counts c = pair_second c.args.counts c.args.row c.if-row.true c.if-row-counts.false

pub returns-else-row : goal.returns-else-row
returns-else-row c = pair_first c.args.counts c.args.row c.if-row.false
