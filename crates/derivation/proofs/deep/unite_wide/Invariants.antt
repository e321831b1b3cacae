use Prim.Native.Nat.{◌-◌, ◌≤◌}
use Rattle.derivation.specs.Collected.{Wide}
use Rattle.derivation.proofs.deep.unite_wide.Given as goal

abbrev pub invariant-loop-i : goal.invariant-loop-i
invariant-loop-i l = (l.i ≤ 8) × Wide l.initial.deep l.d l.p l.i l.deep

abbrev pub decreases-loop-i : goal.decreases-loop-i
decreases-loop-i l = 8 - l.i
