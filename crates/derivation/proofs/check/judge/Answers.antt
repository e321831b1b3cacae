use native.Mathlib.Omega.{arith}
use mathlib.Core.Path.{sym, ◌∙◌}
use Rattle.tables.specs.Open.{book_of}
use Rattle.derivation.proofs.Stand.{stands_all, stands_stopped}
use Rattle.derivation.proofs.Checking.{accepted_more}
use borrow.Author.Tests.{not-true, not-false}
use Rattle.derivation.proofs.check.judge.Goals as goal

pub loop-k-init : goal.loop-k-init
loop-k-init c = (omega arith, λ j l. absurd (omega arith))

pub accept-yes-requires : goal.accept-yes-requires
accept-yes-requires c = record { ready = c.requires; k_in_bounds = omega (arith, c.loop-k-test.true) }

pub returns-then-not-yes : goal.returns-then-not-yes
returns-then-not-yes c = sym (stands_stopped (book_of c.args.book.bytes.now) c.args.rows.now c.loop-k.k c.loop-k.invariant.0 c.loop-k.invariant.1 (sym c.accept-yes.ensures ∙ not-true _ c.if-not-yes.true-raw))

pub loop-k-smaller : goal.loop-k-smaller
loop-k-smaller c = omega arith

pub loop-k-preserved : goal.loop-k-preserved
loop-k-preserved c = (omega arith, accepted_more (book_of c.args.book.bytes.now) c.args.rows.now c.loop-k.k c.loop-k.invariant.1 c.accept-yes.ensures (not-false _ c.if-not-yes.false-raw))

pub returns : goal.returns
returns c = sym (stands_all (book_of c.args.book.bytes.now) c.args.rows.now (λ j l. c.loop-k.invariant.1 j (omega arith)))
