use Rattle.book.proofs.concept.Ways.{PartsPassed}
use Rattle.book.proofs.concept.parts_at.Given as goal

abbrev pub invariant-loop : goal.invariant-loop
invariant-loop l = PartsPassed l.limit l.book l.at l.counter l.here
