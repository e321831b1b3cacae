use Prim.Native.Nat.{◌-◌, ◌≤◌}
use mathlib.Core.Path.{◌≡◌}
use lib.ListN.{length}
use Rattle.tables.specs.Open.{book_of}
use Rattle.derivation.specs.Collected.{Deep}
use Rattle.derivation.proofs.deep.fill_deep.Given as goal

abbrev pub invariant-loop-d : goal.invariant-loop-d
invariant-loop-d l = (l.d ≤ l.n) × (length l.deep ≡ length l.initial.deep) × Deep (book_of l.book.bytes.now) l.book.counts.concepts l.leaves l.slots l.d l.deep

abbrev pub decreases-loop-d : goal.decreases-loop-d
decreases-loop-d l = l.n - l.d
