-- Bytes laid over the lent ones, and the parts of the written book as its code has them.
use Rattle.std.specs.Prelude.{ℕ, zero, suc, ◌+◌, ◌-◌, ◌≤◌, ◌<◌, List, [], ◌++◌, length, get_or, take, drop, eqb}
use Rattle.std.proofs.Math.Seq.{slice}
use Rattle.book.specs.Read.{pick}
use Rattle.book.specs.Bytes.{two_of}

-- the entries l from an offset on, all others as they were
unfoldable pub over : List ℕ → ℕ → List ℕ → List ℕ
over out at l = take at out ++ l ++ drop (at + length l) out

-- a header with another statement count, which stands last in it; a header without one stays as it is
unfoldable pub recounted : List ℕ → ℕ → List ℕ
recounted header count = pick (eqb count 0) header (take (length header - 2) header ++ two_of count)

-- the sizes of the first k records together
unfoldable pub total : List ℕ → ℕ → ℕ
total size zero = 0
total size (suc k) = total size k + get_or size k 0

-- and their bytes
unfoldable pub records_bytes : List ℕ → List ℕ → List ℕ → ℕ → List ℕ
records_bytes s place size zero = []
records_bytes s place size (suc k) = records_bytes s place size k ++ slice (get_or place k 0) (get_or place k 0 + get_or size k 0) s

-- count records that stand in the book
pub record Stand (s : List ℕ) (count : ℕ) (place size : List ℕ) : Type 0 where
  pub places : count ≤ length place
  pub sizes : count ≤ length size
  pub inside : (k : ℕ) → k < count → get_or place k 0 + get_or size k 0 ≤ length s
