-- The rows of a book are put down (src/fill.rt).
use Rattle.std.specs.Prelude.{ℕ, ◌*◌, ◌≤◌, ◌≡◌, Bool, true, List, length}
use Rattle.book.specs.declared.header.Counts.{Counts}
use Rattle.rows.specs.Table.{Table}
use Rattle.rules.specs.Meaning.{conclusions}
use Rattle.tables.specs.Open.{book_of, size_of}
use Rattle.tables.specs.Tables.{Blank}
use Rattle.derivation.specs.Rows.{clash}
use Rattle.derivation.specs.Accept.{claim_at, accepts}
use Rattle.steps.specs.Joinings.{due_of}
use Rattle.steps.specs.Written.{class_row_lem, known_in, Written}

-- the tables are blank, and have as much room as the counts of the book ask for: links with classes t, what takes a concept T, leaves at any depth D
pub record Fresh (h : Counts) (t T D : List ℕ) : Type 0 where
  pub blank : Blank t
  pub room : class_row_lem h h.individuals * 8 ≤ length t
  pub takers_blank : Blank T
  pub takers : h.concepts * 8 ≤ length T
  pub deep_blank : Blank D
  pub deep : h.concepts * 64 ≤ length D

-- so many words for links, for what takes a concept and for leaves at any depth are enough
pub record Holding (h : Counts) (t p d : ℕ) : Type 0 where
  pub links : class_row_lem h h.individuals * 8 ≤ t
  pub takers : h.concepts * 8 ≤ p
  pub deep : h.concepts * 64 ≤ d
  pub most : (t ≤ 536616) × (p ≤ 32768) × (d ≤ 262144)

-- what is known in the table t is what is concluded, and the rows l have one for each fact that is due one, n in all; and after a clash one more
pub record Filled (s : List ℕ) (h : Counts) (clashing : Bool) (n : ℕ) (t l : List ℕ) : Type 0 where
  pub table : Table (size_of h) t
  pub is : known_in h t ≡ conclusions (book_of s)
  pub written : Written (book_of s) (due_of (book_of s) (conclusions (book_of s))) n l
  pub ends_clash : clashing ≡ true → (accepts (book_of s) l n ≡ true) × (claim_at (book_of s) l n ≡ clash)
