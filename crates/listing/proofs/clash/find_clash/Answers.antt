use borrow.Author.Count.{below_more}
use Rattle.listing.specs.Clashes.{Apart}
use Rattle.listing.proofs.clash.find_clash.Goals as goal

pub loop-x-preserved : goal.loop-x-preserved
loop-x-preserved c = below_more (λ y. Apart c.args.size c.args.t.now c.args.pairs.now y) c.loop-x.x c.loop-x.invariant c.in_default.ensures
