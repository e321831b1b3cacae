use Prim.Native.Nat.{ℕ, ◌+◌, ◌*◌, ◌≤◌, ◌<◌}
use native.Mathlib.Omega.{arith}
use mathlib.Core.Path.{◌≡◌, subst}
use mathlib.Core.List.{List}
use lib.ListN.{length, set}
use Rattle.writer.specs.declared.record.Span.{Span}
use Rattle.writer.specs.Record.{ats, sizes}
use Rattle.writer.specs.Tree.{Tree, Kept}
use Rattle.writer.proofs.Entered.{slot_room, tree_first, tree_new, kept_old, kept_new}
use Rattle.writer.proofs.Spans.{ats_length, sizes_length, ats_set, sizes_set}
use Rattle.writer.proofs.tree.keep.Goals as goal

pub returns-then-count-eq0 : goal.returns-then-count-eq0
returns-then-count-eq0 c = let w = first c.args.book.now c.args.count c.args.child.now c.args.spans.now c.args.new c.if-count-eq0.true c.requires.tree c.requires.count_in_bounds.3 c.requires.count_in_bounds.0 c.requires.count_in_bounds.1 in record { tree_2 = w.0; kept = w.1 }
  where
    first : (s : List ℕ) (count : ℕ) (child : List ℕ) (spans : List Span) (x : Span) → count ≡ 0 → Tree s count child (ats spans) (sizes spans) → x.at + x.size ≤ length s → 16 * (count + 1) ≤ length child → count < length spans → Tree s 1 child (ats (set spans 0 x)) (sizes (set spans 0 x)) × Kept s count (ats spans) (sizes spans) x.at x.size 1 (ats (set spans 0 x)) (sizes (set spans 0 x))
    first s count child spans x z t fits r₁ r₂ =
        let p : count < length (ats spans) = omega (arith, ats_length spans) in
        let q : count < length (sizes spans) = omega (arith, sizes_length spans) in
        rw (ats_set spans 0 x, sizes_set spans 0 x)
        (subst (λ (k : ℕ). Tree s (k + 1) child (set (ats spans) k x.at) (set (sizes spans) k x.size) × Kept s count (ats spans) (sizes spans) x.at x.size (k + 1) (set (ats spans) k x.at) (set (sizes spans) k x.size)) z
        (tree_first s count child (ats spans) (sizes spans) t x.at x.size fits r₁ p q z, kept_new s count (ats spans) (sizes spans) x.at x.size p q (λ k l m. omega arith)))

pub returns-in_default : goal.returns-in_default
returns-in_default c = record { tree_2 = c.requires.tree; kept = kept_old _ _ _ _ _ _ (c.search.ensures.already c.in_default.is) }

pub enter-requires : goal.enter-requires
enter-requires c =
    let q = c.search.ensures.belongs _ c.in-Some.is in
    (slot_room q (omega (arith, c.requires.count_in_bounds.0)), c.requires.count_in_bounds.1, c.requires.count_in_bounds.2)

pub returns : goal.returns
returns c =
    let p : c.args.count < length (ats c.args.spans.now) = omega (arith, ats_length c.args.spans.now, c.requires.count_in_bounds.1) in
    let q : c.args.count < length (sizes c.args.spans.now) = omega (arith, sizes_length c.args.spans.now, c.requires.count_in_bounds.1) in
    rw (c.enter.ensures.0, c.enter.ensures.1, ats_set c.args.spans.now c.args.count c.args.new, sizes_set c.args.spans.now c.args.count c.args.new)
    record {
      tree_2 = tree_new c.args.book.now c.args.count c.args.child.now (ats c.args.spans.now) (sizes c.args.spans.now) c.requires.tree c.args.new.at c.args.new.size c.requires.count_in_bounds.3 c.requires.count_in_bounds.0 p q _ (c.search.ensures.belongs _ c.in-Some.is);
      kept = kept_new c.args.book.now c.args.count (ats c.args.spans.now) (sizes c.args.spans.now) c.args.new.at c.args.new.size p q (c.search.ensures.absent _ c.in-Some.is);
    }
