-- `put_line` writes its three parts.
use native.Mathlib.Omega.{arith}
use Rattle.verdict.proofs.list.Writing.{written_then}
use Rattle.text.specs.Text.{line}
use Rattle.text.proofs.line.put_line.Goals as goal

pub returns : goal.returns
unfolding line
returns c = record { written = written_then (written_then c.put_word-first.ensures.written c.put_numbers-last.ensures.written) c.put_byte.ensures.written; upper_bound = omega (arith, c.put_byte.ensures.value, c.put_numbers-last.ensures.upper_bound, c.put_word-first.ensures.value) }
