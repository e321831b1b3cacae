use Rattle.std.proofs.Common.{◌/◌, ◌^◌}
use Rattle.small.specs.Laying.{added, field_bytes}
use Rattle.small.proofs.Laying.{Left}
use Rattle.small.proofs.statement.put_fields.Given as goal

abbrev pub invariant-loop-bit : goal.invariant-loop-bit
invariant-loop-bit l = Left (added l.initial.book (field_bytes 8 l.map l.values)) l.book l.bit (l.map / 2 ^ l.bit) (l.values / 2 ^ l.bit)
