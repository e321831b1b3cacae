use Rattle.derivation.proofs.Claims.{claim_type, claim_edge, claim_clash, claim_pair, claim_none}
use Rattle.derivation.proofs.row.claim_of.Goals as goal

pub returns-then-row-eq0 : goal.returns-then-row-eq0
returns-then-row-eq0 c = claim_type c.args.counts c.args.row _ c.if-row-eq0.true c.type_claim.ensures

pub returns-then-row-eq1 : goal.returns-then-row-eq1
returns-then-row-eq1 c = claim_edge c.args.counts c.args.row _ c.if-row-eq0.false c.if-row-eq1.true c.edge_claim.ensures

pub returns-then-row-eq2 : goal.returns-then-row-eq2
returns-then-row-eq2 c = claim_clash c.args.counts c.args.row _ c.if-row-eq0.false c.if-row-eq1.false c.if-row-eq2.true c.clash_claim.ensures

pub returns-then-row-eq3 : goal.returns-then-row-eq3
returns-then-row-eq3 c = claim_pair c.args.counts c.args.row _ c.if-row-eq0.false c.if-row-eq1.false c.if-row-eq2.false c.if-row-eq3.true c.pair_claim.ensures

pub returns : goal.returns
returns c = claim_none c.args.counts c.args.row c.if-row-eq0.false c.if-row-eq1.false c.if-row-eq2.false c.if-row-eq3.false
