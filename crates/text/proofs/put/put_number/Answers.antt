-- `put_number` writes a space and the digits.
use native.Mathlib.Omega.{arith}
use Rattle.verdict.proofs.list.Writing.{written_then}
use Rattle.text.proofs.put.put_number.Goals as goal

pub returns : goal.returns
returns c = record { written = written_then c.put_byte-next.ensures.written c.put_digits.ensures.written; upper_bound = omega arith }
