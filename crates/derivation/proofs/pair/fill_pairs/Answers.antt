use native.Mathlib.Omega.{arith}
use mathlib.Core.Path.{◌≡◌}
use Rattle.derivation.proofs.Pairing.{paired_start, paired_more}
use mathlib.Core.Bool.{false}
use Rattle.derivation.specs.Pairs.{brings_clash}
use Rattle.derivation.proofs.pair.fill_pairs.Goals as goal

pub loop-k-init : goal.loop-k-init
loop-k-init c = (omega arith, paired_start _ (λ j x y. false))

pub pair_marker-requires : goal.pair_marker-requires
pair_marker-requires c = record { in_bounds = (c.requires.in_bounds.0, c.requires.in_bounds.1, omega arith, omega (arith, c.loop-k.invariant.1.len)); by_index = c.requires.by_index; n_in_bounds = c.requires.n_in_bounds }

pub loop-k-preserved : goal.loop-k-preserved
loop-k-preserved c = (omega arith, paired_more (λ j x y. brings_clash c.args.functional.now c.args.disjoint.now c.args.takers.now c.args.leaves.now c.args.n j x y) c.loop-k.invariant.1 c.pair_marker.ensures)

pub shape_of-pairs : goal.shape_of-pairs
shape_of-pairs c = c.loop-k.invariant.1.len

pub returns : goal.returns
returns c =
    let e : c.loop-k.k ≡ c.args.n = omega arith in
    rw e at c.loop-k.invariant.1
