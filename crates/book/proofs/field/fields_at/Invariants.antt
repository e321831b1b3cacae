use Prim.Native.Nat.{◌-◌}
use mathlib.Core.Path.{◌≡◌}
use Rattle.book.specs.Refusal.{number}
use Rattle.book.specs.Field.{fields_from, fields}
use Rattle.book.proofs.field.fields_at.Given as goal

abbrev pub invariant-loop-k : goal.invariant-loop-k
invariant-loop-k l = fields_from l.limits (number l.over) (16 - l.k) l.k l.rest l.values l.book l.here ≡ fields l.map l.limits l.absent (number l.over) l.book l.at
