-- `header_at` meets its contract.
use Rattle.book.proofs.header.Laws.{counts_fit}
use Rattle.book.proofs.header.header_at.Goals as goal

pub counts_of-requires : goal.counts_of-requires
counts_of-requires c = counts_fit _ _ _ _ _ c.in_ok-values.ensures
