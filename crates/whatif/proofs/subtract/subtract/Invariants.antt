use Prim.Native.Nat.{ℕ, ◌-◌}
use mathlib.Core.Path.{◌≡◌}
use mathlib.Core.List.{List}
use lib.ListN.{length}
use Rattle.whatif.specs.Minus.{Standing}
use Rattle.whatif.proofs.Minus.{Walked}
use Rattle.whatif.proofs.subtract.subtract.Given as goal

abbrev pub invariant-loop-i : goal.invariant-loop-i
invariant-loop-i l =
    ((xs ys : List (List ℕ)) → Standing l.width l.n l.initial.list xs → Standing l.width l.m l.other ys → Walked l.width l.n l.m xs ys l.list l.other l.i l.place.other l.place.kept) × (length l.list ≡ length l.initial.list)

abbrev pub decreases-loop-i : goal.decreases-loop-i
decreases-loop-i l = l.n - l.i
