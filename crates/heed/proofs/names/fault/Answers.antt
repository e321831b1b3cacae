-- `fault` meets its contract.
use Rattle.heed.proofs.Laws.{fault_14, fault_15}
use Rattle.heed.proofs.names.fault.Goals as goal

pub returns-then-reader-gt31 : goal.returns-then-reader-gt31
returns-then-reader-gt31 c = fault_14 _ _ c.in-Some.is c.if-reader-gt31.true

pub returns-then-reader-ne1024 : goal.returns-then-reader-ne1024
returns-then-reader-ne1024 c = fault_15 _ _ c.in-Some.is c.if-reader-gt31.false c.if-reader-ne1024.true
