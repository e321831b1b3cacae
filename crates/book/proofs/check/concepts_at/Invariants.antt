use Rattle.book.proofs.check.Ways.{ConceptsNoted}
use Rattle.book.proofs.check.concepts_at.Given as goal

abbrev pub invariant-loop-k : goal.invariant-loop-k
invariant-loop-k l = ConceptsNoted l.book l.counts l.at l.k l.here l.initial.offsets l.offsets
