use Prim.Native.Nat.{◌+◌, ◌*◌, ◌≤◌}
use lib.ListN.{get_or}
use Rattle.rules.specs.Lists.{gather}
use Rattle.verdict.specs.Listing.{Written}
use Rattle.text.specs.Text.{number}
use Rattle.text.proofs.line.put_numbers.Given as goal

abbrev pub invariant-loop-n : goal.invariant-loop-n
invariant-loop-n l = (l.here ≤ l.at + 11 * l.n-index) × Written l.initial.out l.at (gather l.n-index λ j. number (get_or l.list j 0)) l.out l.here
