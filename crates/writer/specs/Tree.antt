-- The records kept so far as a digital search tree: record 0 is its root, and entry 16 * k + x of `child` is the record below record k for the digit x, or 0 for none.
-- A record is found on the way from the root by its own digits. Two records on one way agree in every digit above the lower one, so a way is no longer than
-- a record has digits, and one more: at most 35 records of at most 17 bytes.
use Rattle.std.specs.Prelude.{ℕ, suc, ◌+◌, ◌*◌, ◌≤◌, ◌<◌, ◌≡◌, List, length, get_or, Option, Some, None}
use Rattle.writer.specs.Record.{Alike, digit_of}

-- record i is d steps from the root, by the digits x
pub data Way (child : List ℕ) (x : ℕ → ℕ) : ℕ → ℕ → Type 0 where
  root : Way child x 0 0
  down : {i d : ℕ} → Way child x i d → (get_or child (16 * i + x d) 0 ≡ 0 → ⊥) → Way child x (get_or child (16 * i + x d) 0) (suc d)

-- the kept record k is the n bytes at `at`
abbrev pub Match : List ℕ → List ℕ → List ℕ → ℕ → ℕ → ℕ → Type 0
Match s place size k at n = (get_or size k 0 ≡ n) × Alike s (get_or place k 0) at n

-- count records, each inside the book; room for the children of each; a child is a later record; each record is on its way
pub record Tree (s : List ℕ) (count : ℕ) (child place size : List ℕ) : Type 0 where
  pub places : count ≤ length place
  pub sizes : count ≤ length size
  pub room : 16 * count ≤ length child
  pub inside : (k : ℕ) → k < count → get_or place k 0 + get_or size k 0 ≤ length s
  pub later : (i x : ℕ) → x < 16 → (get_or child (16 * i + x) 0 ≡ 0 → ⊥) → (i < get_or child (16 * i + x) 0) × (get_or child (16 * i + x) 0 < count)
  pub found : (k : ℕ) → k < count → (d : ℕ) × Way child (digit_of s (get_or place k 0) (get_or size k 0)) k d

-- where a record belongs that is not kept: a free place for a child, at the end of the record's way
pub record Slot (s : List ℕ) (count : ℕ) (child : List ℕ) (at n slot : ℕ) : Type 0 where
  pub parent : ℕ
  pub depth : ℕ
  pub low : parent < count
  pub is : slot ≡ 16 * parent + digit_of s at n depth
  pub digit : digit_of s at n depth < 16
  pub way : Way child (digit_of s at n) parent depth
  pub free : get_or child slot 0 ≡ 0

-- what a search says
pub record Searched (s : List ℕ) (count : ℕ) (child place size : List ℕ) (at n : ℕ) (r : Option ℕ) : Type 0 where
  pub already : r ≡ None → (k : ℕ) × (k < count) × Match s place size k at n
  pub absent : (slot : ℕ) → r ≡ Some slot → (k : ℕ) → k < count → Match s place size k at n → ⊥
  pub belongs : (slot : ℕ) → r ≡ Some slot → Slot s count child at n slot

-- one more record was looked at: it was there, or it is the last one now
pub record Kept (s : List ℕ) (count : ℕ) (place size : List ℕ) (at n : ℕ) (r : ℕ) (place' size' : List ℕ) : Type 0 where
  pub same : (k : ℕ) → k < count → (get_or place' k 0 ≡ get_or place k 0) × (get_or size' k 0 ≡ get_or size k 0)
  pub there : r ≡ count → (k : ℕ) × (k < count) × Match s place size k at n
  pub new : (r ≡ count → ⊥) → (r ≡ count + 1) × (get_or place' count 0 ≡ at) × (get_or size' count 0 ≡ n) × ((k : ℕ) → k < count → Match s place size k at n → ⊥)

-- no record yet, and room for n
pub record Room (s : List ℕ) (n : ℕ) (child place size : List ℕ) : Type 0 where
  pub tree : Tree s 0 child place size
  pub children : 16 * n ≤ length child
  pub places : n ≤ length place
  pub sizes : n ≤ length size
