-- The front of a list, and the text of a run in its parts.
use Prim.Native.Nat.{ℕ, ◌+◌, ◌*◌, ◌≤◌}
use native.Mathlib.Omega.{arith}
use mathlib.Core.Path.{◌≡◌, ap}
use mathlib.Core.List.{List}
use lib.ListN.{length, take, drop, length-take}
use Rattle.verdict.specs.declared.end.End.{End as Answer}
use Rattle.verdict.specs.Listing.{Written}
use Rattle.verdict.specs.Conclude.{end_of, came}
use Rattle.verdict.proofs.list.Writing.{written_then, written_as}
use Rattle.text.specs.Text.{lines, end_line, type_lines, edge_lines, pair_lines, printed}

-- a front is no longer than the list
pub front_short : (n : ℕ) (l : List ℕ) {r : List ℕ} → r ≡ take n l → length r ≤ length l
front_short n l e = omega (arith, ap length e, length-take n l)

-- the end, the types, the edges and the pairs, one after the other
pub run_printed : (r : Answer) (ts es ps : List ℕ) {o l m n q : List ℕ} {a b c d : ℕ} → Written o 0 (end_line (end_of r)) l a → Written l a (type_lines (end_of r) ts) m b → Written m b (edge_lines (end_of r) es) n c
    → Written n c (pair_lines (end_of r) ps) q d → take d q ≡ printed (came r ts es ps)
unfolding printed
run_printed r ts es ps w x y z = (written_then (written_then (written_then w x) y) z).front

-- and behind them all is as it was
pub run_rest : {es fs gs hs o l m n q : List ℕ} {a b c d : ℕ} → Written o 0 es l a → Written l a fs m b → Written m b gs n c → Written n c hs q d → drop d q ≡ drop d o
run_rest w x y z = (written_then (written_then (written_then w x) y) z).rest

-- the lines of a front, under the name of the list
pub front_lines : (word : List ℕ) (w n : ℕ) (l : List ℕ) {part o m : List ℕ} {at end : ℕ} → part ≡ take n l → Written o at (lines word w part) m end × (end ≤ at + 13 * length part)
    → Written o at (lines word w (take n l)) m end × (end ≤ at + 13 * length l)
front_lines word w n l e p = (written_as (ap (lines word w) e) p.0, omega (arith, p.1, front_short n l e))
