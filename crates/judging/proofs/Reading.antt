-- A part list stands in the book, and its parts are counted.
use Prim.Native.Nat.{ℕ, ◌+◌, ◌*◌, ◌≤◌, ◌<◌}
use mathlib.Core.Path.{◌≡◌, subst}
use mathlib.Core.List.{List}
use lib.ListN.{length}
use Rattle.book.specs.declared.concept.Parts.{Parts}
use Rattle.judging.specs.Way.{count_of_lem, PartsInside}
use Rattle.judging.specs.declared.way.Way.{Way}
use Rattle.judging.specs.declared.way.Way.TheVariants.{Every, Any}

module _ (s : List ℕ) (w : Way) (i : ℕ) (inside : PartsInside s w) (l : i < count_of_lem w) (p : Parts) where
  pub every_inside : w ≡ Every p → (p.at + 2 * p.len ≤ length s) × (i < p.len)
  every_inside e = (subst (PartsInside s) e inside, subst (λ (x : Way). i < count_of_lem x) e l)

  pub any_inside : w ≡ Any p → (p.at + 2 * p.len ≤ length s) × (i < p.len)
  any_inside e = (subst (PartsInside s) e inside, subst (λ (x : Way). i < count_of_lem x) e l)
