-- An accepted book with the facts and the classes of its run, and the memo: a row for each concept, and a bit that says that it is done.
use Rattle.std.specs.Prelude.{ℕ, ◌+◌, ◌*◌, ◌<◌, ◌≤◌, ◌≡◌, Bool, true, false, ◌&&◌, ◌||◌, List, length, ltb}
use Rattle.book.specs.Tree.{Concept}
use Rattle.book.specs.declared.header.Counts.{Counts}
use Rattle.book.specs.declared.concept.ConceptExpr.{ConceptExpr}
use Rattle.rows.specs.Row.{at, has}
use Rattle.rows.specs.Table.{Table}
use Rattle.rules.specs.Rule.{Set, any}
use Rattle.rules.specs.Brought.{concept}
use Rattle.tables.specs.Open.{book_of, size_of, Open}
use Rattle.rounds.specs.View.{facts}
use Rattle.member.specs.Shown.{shown}
use Rattle.judging.specs.Row.{Holds}
use Rattle.judging.specs.Way.{mix, rest, start_of, given}
use Rattle.judging.specs.declared.way.Way.{Way}
use Rattle.judging.specs.declared.way.Left.{Left}

-- a table of the book's size, and rows of individuals, one for each label
pub record Laid (h : Counts) (t g : List ℕ) : Type 0 where
  pub table : Table (size_of h) t
  pub groups : h.individuals * 8 ≤ length g

pub record Ready (s : List ℕ) (h : Counts) (offsets t g : List ℕ) : Type 0 where
  pub book : Open s h offsets
  pub laid : Laid h t g

-- the facts of the table, and who stand in one row
abbrev pub facts_in : Counts → List ℕ → Set
facts_in h t = facts (size_of h) t

unfoldable pub class_in_lem : ℕ → List ℕ → ℕ → ℕ → Bool
class_in_lem n g i b = any n λ l. has g l i && has g l b

-- what is shown by them
abbrev pub shown_by : Counts → List ℕ → List ℕ → Concept → ℕ → Bool
shown_by h t g = shown h.individuals (facts_in h t) (class_in_lem h.individuals g)

-- the row acc is what a record starts from
abbrev pub Started : Counts → List ℕ → List ℕ → ConceptExpr → List ℕ → Type 0
Started h t g x acc = Holds acc 0 h.individuals (start_of h.individuals (facts_in h t) (class_in_lem h.individuals g) x)

-- the row of a part is mixed in
abbrev pub Gave : Counts → List ℕ → Way → (ℕ → Bool) → List ℕ → List ℕ → Type 0
Gave h t w row acc acc' = Holds acc' 0 h.individuals λ x. mix w (has acc 0 x) (given h.individuals (facts_in h t) w row x)

abbrev pub Empty : List ℕ → Type 0
Empty acc = (x : ℕ) → x < 512 → has acc 0 x ≡ false

-- i is put in if it is in row k of t
pub record SelfPut (c t : List ℕ) (k i : ℕ) (d : List ℕ) : Type 0 where
  pub len : length d ≡ length c
  pub here : has d 0 i ≡ (has t k i || has c 0 i)
  pub other : (x : ℕ) → x < 512 → (x ≡ i → ⊥) → has d 0 x ≡ has c 0 x

-- the numbers that stand in their own rows, from row k of t on
pub record Selves (t : List ℕ) (k n : ℕ) (acc acc' : List ℕ) : Type 0 where
  pub len : length acc' ≡ length acc
  pub row : (x : ℕ) → x < 512 → has acc' 0 x ≡ ((ltb x n && has t (k + x) x) || has acc 0 x)

-- row l of g is put in if b is in it
pub record RowPut (c g : List ℕ) (b l : ℕ) (d : List ℕ) : Type 0 where
  pub len : length d ≡ length c
  pub row : (x : ℕ) → x < 512 → has d 0 x ≡ ((has g l x && has g l b) || has c 0 x)

-- those that stand with b in one of the first n rows of g
pub record Fellows (g : List ℕ) (b n : ℕ) (acc acc' : List ℕ) : Type 0 where
  pub len : length acc' ≡ length acc
  pub row : (x : ℕ) → x < 512 → has acc' 0 x ≡ (class_in_lem n g x b || has acc 0 x)

-- the row of each concept that is done is right
pub record Memo (s : List ℕ) (h : Counts) (t g rows done : List ℕ) : Type 0 where
  pub rows_room : h.concepts * 8 ≤ length rows
  pub done_room : 64 ≤ length done
  pub right : (k : ℕ) → k < h.concepts → at done k ≡ true → Holds rows k h.individuals (shown_by h t g (concept (book_of s) k))

-- the same memo with more done
pub record Further (s : List ℕ) (h : Counts) (t g rows done rows' done' : List ℕ) : Type 0 where
  pub rows_len : length rows' ≡ length rows
  pub done_len : length done' ≡ length done
  pub memo : Memo s h t g rows' done'
  pub keeps : (j : ℕ) → at done j ≡ true → at done' j ≡ true

pub record Judged (s : List ℕ) (h : Counts) (t g : List ℕ) (k : ℕ) (rows done rows' done' : List ℕ) : Type 0 where
  pub further : Further s h t g rows done rows' done'
  pub there : at done' k ≡ true

-- what is left from part r on gives with the row acc' what it gave from the first on with the row acc
abbrev pub Passed : List ℕ → Counts → List ℕ → List ℕ → Left → ℕ → List ℕ → List ℕ → Type 0
Passed s h t g v r acc acc' = (x : ℕ) → x < h.individuals → mix v.way (has acc' 0 x) (rest h.individuals (facts_in h t) (class_in_lem h.individuals g) s (book_of s).concepts v.way r x) ≡ mix v.way (has acc 0 x) (rest h.individuals (facts_in h t) (class_in_lem h.individuals g) s (book_of s).concepts v.way v.next x)

-- the parts that are left are mixed into the row acc
pub record Mixed (s : List ℕ) (h : Counts) (t g : List ℕ) (v : Left) (rows done acc rows' done' acc' : List ℕ) : Type 0 where
  pub further : Further s h t g rows done rows' done'
  pub acc_len : length acc' ≡ length acc
  pub row : Holds acc' 0 h.individuals λ x. mix v.way (has acc 0 x) (rest h.individuals (facts_in h t) (class_in_lem h.individuals g) s (book_of s).concepts v.way v.next x)
