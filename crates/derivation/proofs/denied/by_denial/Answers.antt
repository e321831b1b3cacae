use Rattle.derivation.proofs.Noting.{denial_is}
use Rattle.derivation.proofs.denied.by_denial.Goals as goal

pub returns : goal.returns
returns c = denial_is c.args.p c.is_denied.ensures c.is_denied-2.ensures c.is_denied-3.ensures
