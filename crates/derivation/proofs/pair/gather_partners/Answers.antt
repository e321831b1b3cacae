use native.Mathlib.Omega.{arith}
use mathlib.Core.Path.{◌≡◌}
use Rattle.derivation.proofs.Pairing.{gathers_start, gathers_more}
use mathlib.Core.Bool.{◌&&◌, false}
use lib.ListN.{get_or}
use Rattle.rows.specs.Row.{has}
use Rattle.derivation.specs.Pairs.{marks_clash_lem}
use Rattle.derivation.proofs.pair.gather_partners.Goals as goal

pub loop-k-init : goal.loop-k-init
loop-k-init c = (omega arith, gathers_start _ (λ j y. false))

pub bounds-leaves-k : goal.bounds-leaves-k
bounds-leaves-k c = omega arith

pub gather_partner-requires : goal.gather_partner-requires
gather_partner-requires c = record { in_bounds = (c.requires.in_bounds.0, c.requires.in_bounds.1, c.requires.in_bounds.2); k_in_bounds = (omega arith, omega (arith, c.loop-k.invariant.1.len)) }

pub loop-k-preserved : goal.loop-k-preserved
loop-k-preserved c = (omega arith, gathers_more (λ j y. marks_clash_lem c.args.functional.now c.args.disjoint.now c.args.x (get_or c.args.leaves.now j 0) && has c.args.takers.now j y) c.loop-k.invariant.1 c.gather_partner.ensures)

pub shape_of-acc : goal.shape_of-acc
shape_of-acc c = c.loop-k.invariant.1.len

pub returns : goal.returns
returns c =
    let e : c.loop-k.k ≡ c.args.n = omega arith in
    rw e at c.loop-k.invariant.1
