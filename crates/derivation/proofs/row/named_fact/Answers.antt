use Rattle.derivation.proofs.Claims.{named_none, named_clash_lem, named_fact_lem}
use Rattle.derivation.proofs.row.named_fact.Goals as goal

pub returns-then-x-eq-NONE : goal.returns-then-x-eq-NONE
returns-then-x-eq-NONE c = named_none c.args.counts c.requires.0 c.args.rows.now c.args.x c.if-x-eq-NONE.true

pub row_at-requires : goal.row_at-requires
row_at-requires c = c.requires.1 c.if-x-eq-NONE.false

pub returns-then-c : goal.returns-then-c
returns-then-c c = named_clash_lem c.args.counts c.requires.0 c.args.rows.now c.args.x c.if-x-eq-NONE.false c.row_at.ensures c.claim_of-c.ensures c.if-c.true

pub returns : goal.returns
returns c = named_fact_lem c.args.counts c.requires.0 c.args.rows.now c.args.x c.if-x-eq-NONE.false c.row_at.ensures c.claim_of-c.ensures c.if-c.false
