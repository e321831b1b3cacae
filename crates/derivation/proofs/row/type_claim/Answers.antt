use Rattle.derivation.proofs.Claims.{type_yes, type_third, type_second, type_first}
use Rattle.derivation.proofs.row.type_claim.Goals as goal

pub returns-then-row-eq-NONE : goal.returns-then-row-eq-NONE
returns-then-row-eq-NONE c = type_yes c.args.counts c.args.row _ c.if-row-counts.true c.if-row-counts-2.true c.if-row-eq-NONE.true c.type_of.ensures

pub returns-else-row-eq-NONE : goal.returns-else-row-eq-NONE
returns-else-row-eq-NONE c = type_third c.args.counts c.args.row c.if-row-counts.true c.if-row-counts-2.true c.if-row-eq-NONE.false

pub returns-else-row-counts-2 : goal.returns-else-row-counts-2
returns-else-row-counts-2 c = type_second c.args.counts c.args.row c.if-row-counts.true c.if-row-counts-2.false

pub returns-else-row-counts : goal.returns-else-row-counts
returns-else-row-counts c = type_first c.args.counts c.args.row c.if-row-counts.false
