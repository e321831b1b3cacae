use Rattle.derivation.proofs.Chaining.{alone_order, pair_order, triple_order, fillers_order}
use Rattle.derivation.proofs.order.order_fits.Goals as goal

pub pair_fits-requires : goal.pair_fits-requires
pair_fits-requires c = rw c.in-Pair.is at c.chain_of-chain.ensures.1

pub triple_fits-requires : goal.triple_fits-requires
triple_fits-requires c = rw c.in-Triple.is at c.chain_of-chain.ensures.1

pub fillers_fit-requires : goal.fillers_fit-requires
fillers_fit-requires c = rw c.in-Fillers.is at c.chain_of-chain.ensures.1

pub returns-in-Alone : goal.returns-in-Alone
returns-in-Alone c =
    λ B t. alone_order c.args.p.one c.args.p.two c.args.p.three B c.args.statement c.args.f c.chain_of-chain.ensures.0 c.in-Alone.is
    (c.alone_fits.ensures B t)

pub returns-in-Pair : goal.returns-in-Pair
returns-in-Pair c =
    λ B t. pair_order c.args.p.one c.args.p.two c.args.p.three B c.args.statement c.args.f c.chain_of-chain.ensures.0 t.counts _ _ _
    c.in-Pair.is c.pair_fits.ensures

pub returns-in-Triple : goal.returns-in-Triple
returns-in-Triple c =
    λ B t. triple_order c.args.p.one c.args.p.two c.args.p.three B c.args.statement c.args.f c.chain_of-chain.ensures.0 t.counts _ _ _ _
    c.in-Triple.is c.triple_fits.ensures

pub returns-in-Fillers : goal.returns-in-Fillers
returns-in-Fillers c =
    λ B t. fillers_order c.args.p.one c.args.p.two c.args.p.three B c.args.statement c.args.f c.chain_of-chain.ensures.0 t.counts _
    c.in-Fillers.is c.fillers_fit.ensures
