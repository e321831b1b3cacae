use Rattle.derivation.proofs.Claims.{edge_yes, edge_third, edge_second, edge_first}
use Rattle.derivation.proofs.row.edge_claim.Goals as goal

pub returns-then-row-counts-3 : goal.returns-then-row-counts-3
returns-then-row-counts-3 c = edge_yes c.args.counts c.args.row _ c.if-row-counts.true c.if-row-counts-2.true c.if-row-counts-3.true c.edge_of.ensures

pub returns-else-row-counts-3 : goal.returns-else-row-counts-3
returns-else-row-counts-3 c = edge_third c.args.counts c.args.row c.if-row-counts.true c.if-row-counts-2.true c.if-row-counts-3.false

pub returns-else-row-counts-2 : goal.returns-else-row-counts-2
returns-else-row-counts-2 c = edge_second c.args.counts c.args.row c.if-row-counts.true c.if-row-counts-2.false

pub returns-else-row-counts : goal.returns-else-row-counts
returns-else-row-counts c = edge_first c.args.counts c.args.row c.if-row-counts.false
