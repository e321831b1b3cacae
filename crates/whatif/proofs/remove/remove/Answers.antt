use native.Mathlib.Omega.{arith}
use mathlib.Core.Path.{refl, ap}
use Rattle.verdict.specs.Conclude.{end_of}
use Rattle.whatif.specs.Minus.{rows2, rows3}
use Rattle.whatif.proofs.Beginning.{not_finished}
use Rattle.whatif.proofs.Listed.{removed, types_stand, edges_stand, pairs_stand}
use Rattle.whatif.proofs.remove.remove.Goals as goal

pub returns-in_default : goal.returns-in_default
returns-in_default c = record { same = record { types = refl; edges = refl; pairs = refl }; more_pairs_after = λ n. refl; more_pairs_after_2 = λ T E P U F Q a b. absurd (not_finished c.args.first c.in_default.in_default-own.keys2 _ _ _ (ap end_of a.end)) }

pub returns-in_default-second : goal.returns-in_default-second
returns-in_default-second c = record { same = record { types = refl; edges = refl; pairs = refl }; more_pairs_after = λ n. refl; more_pairs_after_2 = λ T E P U F Q a b. absurd (not_finished c.args.second c.in_default-second.in_default-second-own.keys2 _ _ _ (ap end_of b.end)) }

pub subtract-u-requires : goal.subtract-u-requires
subtract-u-requires c = let q = c.requires _ _ _ _ _ _ c.in-Finished.is c.in-Finished-second.is in record { width_nonzero = omega arith; by_index = ((rows2 q.1.0, types_stand q.1.3 c.in-Finished-second.is), (rows2 q.0.0, types_stand q.0.3 c.in-Finished.is)) }

pub subtract-f-requires : goal.subtract-f-requires
subtract-f-requires c = let q = c.requires _ _ _ _ _ _ c.in-Finished.is c.in-Finished-second.is in record { width_nonzero = omega arith; by_index = ((rows3 q.1.1, edges_stand q.1.3 c.in-Finished-second.is), (rows3 q.0.1, edges_stand q.0.3 c.in-Finished.is)) }

pub subtract-q-requires : goal.subtract-q-requires
subtract-q-requires c = let q = c.requires _ _ _ _ _ _ c.in-Finished.is c.in-Finished-second.is in record { width_nonzero = omega arith; by_index = ((rows2 q.1.2, pairs_stand q.1.3 c.in-Finished-second.is), (rows2 q.0.2, pairs_stand q.0.3 c.in-Finished.is)) }

pub returns : goal.returns
returns c =
    record {
      same = record { types = refl; edges = refl; pairs = refl };
      more_pairs_after = λ n. absurd (n _ _ _ c.in-Finished-second.is);
      more_pairs_after_2 = λ T E P U F Q a b.
          removed T E P U F Q c.args.more.now.types.now c.args.more.now.edges.now c.args.more.now.pairs.now _ _ _ _ _ _
          (c.subtract-u.ensures.0 (rows2 U) (rows2 T) (types_stand b c.in-Finished-second.is) (types_stand a c.in-Finished.is))
          (c.subtract-f.ensures.0 (rows3 F) (rows3 E) (edges_stand b c.in-Finished-second.is) (edges_stand a c.in-Finished.is))
          (c.subtract-q.ensures.0 (rows2 Q) (rows2 P) (pairs_stand b c.in-Finished-second.is) (pairs_stand a c.in-Finished.is));
    }
