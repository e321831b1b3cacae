-- A kind with one map has it in each of its three places.
use mathlib.Core.Path.{◌≡◌, refl}
use mathlib.Core.Bool.{Bool, true, false, ◌||◌}

pub thrice : (b : Bool) → b ≡ (b || b || b)
thrice true = refl
thrice false = refl
