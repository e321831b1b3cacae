use Prim.Native.Nat.{◌-◌, ◌≤◌}
use Rattle.derivation.specs.Collected.{Parted}
use Rattle.derivation.proofs.deep.unite_parts.Given as goal

abbrev pub invariant-loop-i : goal.invariant-loop-i
invariant-loop-i l = (l.i ≤ l.parts.len) × Parted l.book.bytes.now l.parts l.d l.i l.initial.deep l.deep

abbrev pub decreases-loop-i : goal.decreases-loop-i
decreases-loop-i l = l.parts.len - l.i
