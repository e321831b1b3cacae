use Prim.Native.Nat.{ℕ, ◌<◌}
use Rattle.listing.specs.Clashes.{Apart}
use Rattle.listing.proofs.clash.find_clash.Given as goal

abbrev pub invariant-loop-x : goal.invariant-loop-x
invariant-loop-x l = (y : ℕ) → y < l.x → Apart l.size l.t l.pairs y
