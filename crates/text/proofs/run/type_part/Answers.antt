-- `type_part` gives back the front.
use mathlib.Core.Path.{ap, ◌∙◌}
use Prim.Native.Nat.{ℕ}
use native.Mathlib.Omega.{arith}
use lib.ListN.{take}
use Rattle.saturation.proofs.part.Fronts.{take_all, take-length}
use Rattle.text.proofs.run.type_part.Goals as goal

pub returns-then-types-n : goal.returns-then-types-n
returns-then-types-n c = take_all c.type_entries-n.result c.args.types.now (omega arith) ∙ ap (λ (n : ℕ). take n c.args.types.now) c.type_entries-n.ensures

pub slice_bounds-result-end : goal.slice_bounds-result-end
slice_bounds-result-end c = take-length c.type_entries-n.result c.args.types.now (omega arith)

pub returns : goal.returns
returns c = ap (λ (n : ℕ). take n c.args.types.now) c.type_entries-n.ensures
