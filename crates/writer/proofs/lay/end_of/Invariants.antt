use Prim.Native.Nat.{◌+◌}
use mathlib.Core.Path.{◌≡◌}
use Rattle.writer.specs.Lay.{total}
use Rattle.writer.specs.Record.{sizes}
use Rattle.writer.proofs.lay.end_of.Given as goal

abbrev pub invariant-loop-span : goal.invariant-loop-span
invariant-loop-span l = l.end ≡ l.start + total (sizes l.kept) l.span-index
