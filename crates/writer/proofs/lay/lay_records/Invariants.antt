use Prim.Native.Nat.{◌+◌}
use mathlib.Core.Path.{◌≡◌}
use Rattle.writer.specs.Lay.{over, total, records_bytes}
use Rattle.writer.specs.Record.{ats, sizes}
use Rattle.writer.proofs.lay.lay_records.Given as goal

abbrev pub invariant-loop-span : goal.invariant-loop-span
invariant-loop-span l =
    (l.here ≡ l.start + total (sizes l.kept) l.span-index) × (l.out ≡ over l.initial.out l.start (records_bytes l.book (ats l.kept) (sizes l.kept) l.span-index))
