use mathlib.Core.Bool.{◌&&◌}
use Prim.Native.Nat.{◌+◌}
use Rattle.rows.specs.Row.{has}
use Rattle.rows.specs.Members.{Over}
use Rattle.verdict.specs.Verdict.{counting, meeting}
use Rattle.verdict.proofs.verdict.Searches.{Sought}
use Rattle.verdict.proofs.verdict.mask_clash.Given as goal

abbrev pub invariant-loop-d : goal.invariant-loop-d
invariant-loop-d l = Over (has l.disjoint l.c) l.size.classes l.d-iterator × Sought (has l.disjoint l.c) (λ x. counting l.own l.c x && meeting l.size.individuals (has l.mask 0) (has l.s (l.base + x))) l.d-iterator.at
