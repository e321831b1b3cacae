use Rattle.derivation.proofs.Claims.{clash_yes, clash_third, clash_second, clash_first}
use Rattle.derivation.proofs.row.clash_claim.Goals as goal

pub returns-then-row-eq-NONE-3 : goal.returns-then-row-eq-NONE-3
returns-then-row-eq-NONE-3 c = clash_yes c.args.row c.if-row-eq-NONE.true c.if-row-eq-NONE-2.true c.if-row-eq-NONE-3.true

pub returns-else-row-eq-NONE-3 : goal.returns-else-row-eq-NONE-3
returns-else-row-eq-NONE-3 c = clash_third c.args.row c.if-row-eq-NONE.true c.if-row-eq-NONE-2.true c.if-row-eq-NONE-3.false

pub returns-else-row-eq-NONE-2 : goal.returns-else-row-eq-NONE-2
returns-else-row-eq-NONE-2 c = clash_second c.args.row c.if-row-eq-NONE.true c.if-row-eq-NONE-2.false

pub returns-else-row-eq-NONE : goal.returns-else-row-eq-NONE
returns-else-row-eq-NONE c = clash_first c.args.row c.if-row-eq-NONE.false
