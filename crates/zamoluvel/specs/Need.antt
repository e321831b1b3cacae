-- What a book will need, as numbers, for callers in other languages.
use Rattle.std.specs.Prelude.{ℕ, ◌+◌}
use Rattle.figure.specs.Figure.{Answer, Figure, Refused}

-- 0 for a figure, 100 + n refused by n
abbrev pub need_code_lem : Answer → ℕ
need_code_lem (Figure f) = 0
need_code_lem (Refused n) = 100 + n

-- the figure, 0 where the book is refused
abbrev pub figure_in_lem : Answer → ℕ
figure_in_lem (Figure f) = f
figure_in_lem (Refused n) = 0
