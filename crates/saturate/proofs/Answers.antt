-- What a run came to is its outcome, and the text of that is the output.
use Prim.Native.Nat.{ℕ, ◌≤◌, ◌<◌}
use mathlib.Core.Path.{◌≡◌}
use mathlib.Core.List.{List, []}
use lib.ListN.{length, take}
use borrow.Author.Tests.{lt-ltb, le-ltb}
use Rattle.rules.specs.Ends.{outcome}
use Rattle.verdict.specs.Listing.{Written}
use Rattle.text.specs.Text.{line, printed}
use Rattle.saturate.specs.Output.{zeros, long, output}

pub output_long : (s : List ℕ) {o m : List ℕ} {n : ℕ} → 65536 < length s → Written o 0 (line long []) m n → take n m ≡ output s
unfolding output
output_long s h w = rw (lt-ltb _ _ h) w.front

pub output_run : (s : List ℕ) {t : List ℕ} → length s ≤ 65536 → t ≡ printed (outcome s 4000 (zeros 8000) (zeros 12000) (zeros 4000)) → t ≡ output s
unfolding output
output_run s h e = rw (le-ltb _ _ h) e
