-- Statement records as bytes: their digits, and which are alike.
use Rattle.std.specs.Prelude.{ℕ, ◌+◌, ◌-◌, ◌/◌, ◌%◌, ◌<◌, ◌≡◌, Bool, true, false, List, map, get_or, eqb, leb}
use Rattle.book.specs.Read.{pick}
use Rattle.writer.specs.declared.record.Span.{Span}

-- where records stand, and how long they are
abbrev pub ats : List Span → List ℕ
ats spans = map (λ r. r.at) spans

abbrev pub sizes : List Span → List ℕ
sizes spans = map (λ r. r.size) spans

-- n bytes at a are those at b
abbrev pub Alike : List ℕ → ℕ → ℕ → ℕ → Type 0
Alike s a b n = (j : ℕ) → j < n → get_or s (a + j) 0 ≡ get_or s (b + j) 0

-- the low four bits of a byte for an even place, the high four for an odd one
abbrev pub half : ℕ → ℕ → ℕ
half place byte = pick (eqb (place % 2) 0) (byte % 16) (byte / 16)

-- digit d of n bytes, from the last byte back; 0 where there is no further byte
unfoldable pub digit_of : List ℕ → ℕ → ℕ → ℕ → ℕ
digit_of s at n d = pick (leb n (d / 2)) 0 (half d (get_or s (at + (n - 1 - d / 2)) 0))

pub record Matched (s : List ℕ) (a m b n : ℕ) (r : Bool) : Type 0 where
  pub yes : r ≡ true → (m ≡ n) × Alike s a b n
  pub no : r ≡ false → m ≡ n → Alike s a b n → ⊥
