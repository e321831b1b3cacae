use Rattle.derivation.proofs.Denying.{row_other, row_types, row_denied}
use Rattle.derivation.proofs.check.by_clash.Goals as goal

pub returns-then-not-named : goal.returns-then-not-named
returns-then-not-named c = λ B t d. row_other c.args.counts B c.args.row c.args.p c.if-not-named.true-raw

pub returns-then-clash_fits : goal.returns-then-clash_fits
returns-then-clash_fits c = λ B t d. row_types c.args.counts B c.args.row c.args.p c.if-not-named.false-raw (c.clash_fits.ensures B t) c.if-clash_fits.true

pub returns : goal.returns
returns c = λ B t d. row_denied c.args.counts B c.args.row c.args.p c.if-not-named.false-raw (c.clash_fits.ensures B t) c.if-clash_fits.false (c.by_denial.ensures B d)
