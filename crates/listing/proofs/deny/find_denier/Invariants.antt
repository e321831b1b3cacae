use Rattle.listing.proofs.Denials.{Quiet}
use Rattle.listing.proofs.deny.find_denier.Given as goal

abbrev pub invariant-loop-k : goal.invariant-loop-k
invariant-loop-k l = Quiet l.book l.counts l.ledger.t.now l.k
