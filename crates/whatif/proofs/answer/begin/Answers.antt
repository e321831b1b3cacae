use Rattle.whatif.proofs.Beginning.{begin-ways}
use Rattle.whatif.proofs.answer.begin.Goals as goal

pub returns-in_default : goal.returns-in_default
returns-in_default c = search begin-ways

pub returns-then-edges-budget : goal.returns-then-edges-budget
returns-then-edges-budget c = search begin-ways

pub returns-then-types-budget : goal.returns-then-types-budget
returns-then-types-budget c = search begin-ways

pub returns-then-statements-ge4096 : goal.returns-then-statements-ge4096
returns-then-statements-ge4096 c = search begin-ways

pub returns-in-Err : goal.returns-in-Err
returns-in-Err c = search begin-ways

pub returns-in-Ok : goal.returns-in-Ok
returns-in-Ok c = search begin-ways
