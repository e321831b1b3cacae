use Rattle.rules.proofs.Tests.{false_true}
use Rattle.saturation.proofs.allot.is_small.Goals as goal

pub returns-then-counts-gt8 : goal.returns-then-counts-gt8
returns-then-counts-gt8 c = λ e. false_true e

pub returns-then-counts-gt4 : goal.returns-then-counts-gt4
returns-then-counts-gt4 c = λ e. false_true e

pub returns-then-counts-gt16 : goal.returns-then-counts-gt16
returns-then-counts-gt16 c = λ e. false_true e

pub returns-then-counts-gt64 : goal.returns-then-counts-gt64
returns-then-counts-gt64 c = λ e. false_true e
