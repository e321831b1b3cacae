use native.Mathlib.Omega.{arith}
use mathlib.Core.Path.{refl}
use Rattle.listing.proofs.Denials.{denier_found, quiet_more, denier_none}
use Rattle.listing.proofs.deny.find_denier.Goals as goal

pub bounds-starts-k : goal.bounds-starts-k
bounds-starts-k c = omega (arith, c.loop-k-test.true, c.requires.located.room)

pub deny_at-requires : goal.deny_at-requires
deny_at-requires c = record { listed = c.requires.listed; labels_of = c.requires.labels_of.0; individuals_in_bounds = c.requires.labels_of.1 }

pub returns-in-Some : goal.returns-in-Some
returns-in-Some c = denier_found c.args.book.now c.args.counts c.args.ledger.t.now c.args.ledger.len c.args.ledger.rows.now c.args.starts.now c.requires.located c.loop-k.k (omega (arith, c.loop-k-test.true)) _ c.in-Some.ensures refl

pub loop-k-preserved : goal.loop-k-preserved
loop-k-preserved c = quiet_more c.args.book.now c.args.counts c.args.ledger.t.now c.args.ledger.len c.args.ledger.rows.now c.args.starts.now c.requires.located c.loop-k.k (omega (arith, c.loop-k-test.true)) _ c.in_default.ensures refl c.loop-k.invariant

pub returns : goal.returns
returns c = denier_none c.args.book.now c.args.counts c.args.ledger.t.now c.args.ledger.len c.args.ledger.rows.now c.args.starts.now c.requires.located c.loop-k.k (omega arith) c.loop-k.invariant c.requires.t_value
