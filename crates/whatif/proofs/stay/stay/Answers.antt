use native.Mathlib.Omega.{arith}
use mathlib.Core.Path.{◌∙◌, ap}
use Rattle.verdict.specs.Conclude.{end_of}
use Rattle.whatif.proofs.Beginning.{not_finished}
use Rattle.whatif.proofs.Staying.{came_cleared, stayed_other, stayed_clash, stayed_11, stayed_none}
use Rattle.verdict.specs.declared.end.End.TheVariants as answer
use Rattle.book.specs.declared.refusal.Refusal.TheVariants.{ShortPairList}
use Rattle.whatif.proofs.stay.stay.Goals as goal

pub returns-in_default-clause-outcome : goal.returns-in_default-clause-outcome
returns-in_default-clause-outcome c =
    came_cleared c.args.lists.now.types.now c.args.lists.now.edges.now c.args.lists.now.pairs.now c.args.first c.clear_all.ensures.types_after c.clear_all.ensures.edges_after c.clear_all.ensures.pairs_after
    ∙ stayed_other c.args.lists.now.types.now c.args.lists.now.edges.now c.args.lists.now.pairs.now _ c.args.first (λ a b d q. not_finished c.args.first c.in_default.in_default-own.keys2 a b d (ap end_of q))

pub returns-then-clashes-clause-outcome : goal.returns-then-clashes-clause-outcome
returns-then-clashes-clause-outcome c =
    came_cleared c.args.lists.now.types.now c.args.lists.now.edges.now c.args.lists.now.pairs.now (answer.Clash c.in-Finished.a c.in-Finished.b) c.clear_all.ensures.types_after c.clear_all.ensures.edges_after c.clear_all.ensures.pairs_after
    ∙ stayed_clash c.args.lists.now.types.now c.args.lists.now.edges.now c.args.lists.now.pairs.now c.in-Finished.is (rw c.clash.ensures at c.if-clashes.true)

pub returns-then-lists-c-clause-outcome : goal.returns-then-lists-c-clause-outcome
returns-then-lists-c-clause-outcome c =
    came_cleared c.args.lists.now.types.now c.args.lists.now.edges.now c.args.lists.now.pairs.now (answer.Refused ShortPairList) c.clear_all.ensures.types_after c.clear_all.ensures.edges_after c.clear_all.ensures.pairs_after
    ∙ stayed_11 c.args.lists.now.types.now c.args.lists.now.edges.now c.args.lists.now.pairs.now c.in-Finished.is (rw c.clash.ensures at c.if-clashes.false) (omega (arith, c.clear_all.auto.pairs, c.if-lists-c.true))

pub returns-clause-outcome : goal.returns-clause-outcome
returns-clause-outcome c =
    came_cleared c.args.lists.now.types.now c.args.lists.now.edges.now c.args.lists.now.pairs.now (answer.Finished 0 0 0) c.clear_all.ensures.types_after c.clear_all.ensures.edges_after c.clear_all.ensures.pairs_after
    ∙ stayed_none c.args.lists.now.types.now c.args.lists.now.edges.now c.args.lists.now.pairs.now c.in-Finished.is (rw c.clash.ensures at c.if-clashes.false) (omega (arith, c.clear_all.auto.pairs, c.if-lists-c.false))
