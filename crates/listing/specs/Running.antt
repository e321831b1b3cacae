-- The run, and then its rows (src/run.rt).
use Rattle.std.specs.Prelude.{ℕ, ◌+◌, ◌*◌, ◌<◌, ◌≤◌, ◌≡◌, Bool, List, length, replicate}
use Rattle.book.specs.Read.{pick}
use Rattle.book.specs.Book.{Book, accepted, decode}
use Rattle.rules.specs.Meaning.{conclusions}
use Rattle.rules.specs.Clash.{clashes}
use Rattle.rules.specs.Lists.{types, edges, pairs, entries2, filled}
use Rattle.rules.specs.Ends.{End, Refused, Clash, Finished, outcome}
use Rattle.tables.specs.Open.{book_of}
use Rattle.steps.specs.Joinings.{joinings}
use Rattle.listing.specs.declared.run.Numbers.{Numbers}
use Rattle.listing.specs.Listing.{Ended, zeros, Listing}

-- a pair list of n entries has room for all same pairs of the book that the bytes are
abbrev pub PairsFit : List ℕ → ℕ → Type 0
PairsFit s n = (B : Book) → decode s ≡ accepted B → 2 * length (pairs B (conclusions B)) ≤ n

-- the run itself, with a pair list that has room: its end, and the types and edges that it leaves
pub record PlainRun (s : List ℕ) (budget : ℕ) (ts es : List ℕ) (end : End) (us fs : List ℕ) : Type 0 where
  pub list : List ℕ
  pub room : PairsFit s (length list)
  pub ends : end ≡ (outcome s budget ts es list).end
  pub types : us ≡ (outcome s budget ts es list).types
  pub edges : fs ≡ (outcome s budget ts es list).edges

-- the numbers of a run of the bytes s, with the joinings that there are
abbrev pub numbers_of_lem : List ℕ → ℕ → ℕ → ℕ → Bool → Numbers
numbers_of_lem s t e p c = record { types = t; edges = e; pairs = p; joinings = length (joinings (book_of s) (conclusions (book_of s))); clashes = c }

-- how many rows the numbers ask for
abbrev pub rows_for_lem : Numbers → ℕ
rows_for_lem r = r.types + r.edges + r.joinings + pick r.clashes 1 0

-- the numbers are those of the book that the bytes are, whose types fit into the list
pub record Ran (s : List ℕ) (r : Numbers) (ts : List ℕ) : Type 0 where
  pub whole : decode s ≡ accepted (book_of s)
  pub types : r.types ≡ length (types (book_of s) (conclusions (book_of s)))
  pub edges : r.edges ≡ length (edges (book_of s) (conclusions (book_of s)))
  pub joinings : r.joinings ≡ length (joinings (book_of s) (conclusions (book_of s)))
  pub clash : r.clashes ≡ clashes (book_of s) (conclusions (book_of s))
  pub room : 2 * r.types ≤ length ts

-- the rows are listed, and the types: none after a clash
pub record RowsLeft (s : List ℕ) (r : Numbers) (ts rs us l : List ℕ) : Type 0 where
  pub types : us ≡ pick r.clashes (replicate (length ts) 0) (filled (entries2 (types (book_of s) (conclusions (book_of s)))) (length ts))
  pub listing : Listing (book_of s) (conclusions (book_of s)) (length rs) l

-- the end that the numbers say
abbrev pub ended_as : Numbers → End
ended_as r = pick r.clashes (Clash r.types r.edges) (Finished r.types r.edges r.pairs)

-- 13, or the rows
pub record RunListed (s : List ℕ) (r : Numbers) (ts es rs : List ℕ) (o : Ended) (l : List ℕ) : Type 0 where
  pub refused : length rs < 9 * rows_for_lem r → (o ≡ zeros ts es (Refused 13)) × (l ≡ rs)
  pub listed : 9 * rows_for_lem r ≤ length rs → (o ≡ record { end = ended_as r; types = pick r.clashes (replicate (length ts) 0) (filled (entries2 (types (book_of s) (conclusions (book_of s)))) (length ts)); edges = es }) × Listing (book_of s) (conclusions (book_of s)) (length rs) l
