use native.Mathlib.Omega.{arith}
use Rattle.saturation.proofs.part.Fronts.{take_all, take-length}
use Rattle.saturation.proofs.part.front.Goals as goal

pub returns-then-list-n : goal.returns-then-list-n
returns-then-list-n c = take_all c.args.n c.args.list.now (omega arith)

pub slice_bounds-result-end : goal.slice_bounds-result-end
slice_bounds-result-end c = take-length c.args.n c.args.list.now (omega arith)
