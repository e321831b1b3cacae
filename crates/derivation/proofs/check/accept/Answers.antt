use native.Mathlib.Omega.{arith}
use mathlib.Core.Path.{sym, ◌∙◌}
use Rattle.tables.specs.Open.{book_of}
use Rattle.derivation.proofs.Checking.{accept_late, accept_nothing, accept_clash, accept_fact}
use Rattle.derivation.proofs.check.accept.Goals as goal

pub facts_named-p-requires : goal.facts_named-p-requires
facts_named-p-requires c = record { limits = c.requires.ready.prepared.concepts.limits; k_in_bounds = (omega (arith, c.requires.k_in_bounds), sym c.names_earlier.ensures ∙ c.if-names_earlier.true) }

pub returns-then-c : goal.returns-then-c
returns-then-c c = accept_nothing c.requires.ready c.args.rows.now c.args.k c.row_at-row.ensures c.names_earlier.ensures c.if-names_earlier.true c.claim_of-c.ensures c.if-c.true

pub by_clash-requires : goal.by_clash-requires
by_clash-requires c = (c.requires.ready.prepared.concepts.limits, c.requires.ready.pairs_room)

pub returns-then-c-2 : goal.returns-then-c-2
returns-then-c-2 c = accept_clash c.requires.ready c.args.rows.now c.args.k c.row_at-row.ensures c.names_earlier.ensures c.if-names_earlier.true c.facts_named-p.ensures c.claim_of-c.ensures c.if-c-2.true (c.by_clash.ensures (book_of c.args.book.bytes.now) c.requires.ready.pairs c.requires.ready.denied)

pub returns-then-names_earlier : goal.returns-then-names_earlier
returns-then-names_earlier c = accept_fact c.requires.ready c.args.rows.now c.args.k c.row_at-row.ensures c.names_earlier.ensures c.if-names_earlier.true c.facts_named-p.ensures c.claim_of-c.ensures c.if-c.false c.if-c-2.false c.by_fact.ensures

pub returns : goal.returns
returns c = accept_late c.requires.ready c.args.rows.now c.args.k c.row_at-row.ensures c.names_earlier.ensures c.if-names_earlier.false
