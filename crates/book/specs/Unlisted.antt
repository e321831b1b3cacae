-- The numbers that refusals have.
use Rattle.std.specs.Prelude.{ℕ, Bool, leb, ◌&&◌}

-- whether one of the seventeen has this number
abbrev pub listed : ℕ → Bool
listed n = leb 1 n && leb n 17
