use Rattle.rules.specs.Meaning.{conclusions}
use Rattle.tables.specs.Open.{book_of}
use Rattle.listing.proofs.Running.{no_joinings}
use Rattle.listing.proofs.run.joinings_due.Goals as goal

pub returns-then-pairs-eq0 : goal.returns-then-pairs-eq0
returns-then-pairs-eq0 c =
    let B = book_of c.args.book.now in
    no_joinings B (conclusions B) (c.requires.pairs_value c.if-clashes.false) c.if-pairs-eq0.true
