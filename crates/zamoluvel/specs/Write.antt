-- Answers as numbers, for callers in other languages.
use Rattle.std.specs.Prelude.{ℕ, ◌+◌}
use Rattle.writer.specs.Written.{Answer, Written, Refused}

-- 0 written, 100 + n refused by n
abbrev pub answer_code_lem : Answer → ℕ
answer_code_lem (Written n) = 0
answer_code_lem (Refused n) = 100 + n

-- the length of the written book, 0 where it is refused
abbrev pub length_of : Answer → ℕ
length_of (Written n) = n
length_of (Refused n) = 0
