use Rattle.rules.proofs.Tests.{false_true}
use Rattle.saturation.proofs.allot.is_tiny.Goals as goal

pub returns-then-counts-gt2 : goal.returns-then-counts-gt2
returns-then-counts-gt2 c = λ e. false_true e

pub returns-then-counts-gt2-2 : goal.returns-then-counts-gt2-2
returns-then-counts-gt2-2 c = λ e. false_true e

pub returns-then-counts-gt4 : goal.returns-then-counts-gt4
returns-then-counts-gt4 c = λ e. false_true e

pub returns-then-counts-gt8 : goal.returns-then-counts-gt8
returns-then-counts-gt8 c = λ e. false_true e
