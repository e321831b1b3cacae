-- What zamoluvel_check_rows answers.
use Rattle.std.specs.Prelude.{ℕ, ◌+◌}
use Rattle.derivation.specs.Accept.{Judged, stand_rows, faulty_book}

-- 0, or 100 plus the number of the book's refusal
abbrev pub judged_code : Judged → ℕ
judged_code (stand_rows n) = 0
judged_code (faulty_book n) = 100 + n

-- how many rows stand; 0 for a book that is refused
abbrev pub judged_rows : Judged → ℕ
judged_rows (stand_rows n) = n
judged_rows (faulty_book n) = 0
