-- The row of a clash (src/clash.rt).
use Rattle.std.specs.Prelude.{ℕ, ◌-◌, ◌<◌, ◌≡◌, true, List, length, Option, None, Some}
use Rattle.book.specs.Book.{Book}
use Rattle.rows.specs.Row.{has}
use Rattle.rows.specs.declared.table.Size.{Size}
use Rattle.rows.specs.Table.{leads}
use Rattle.derivation.specs.declared.row.Row.{Row}
use Rattle.derivation.specs.Rows.{row_at, clash}
use Rattle.derivation.specs.Accept.{claim_at, accepts}
use Rattle.steps.specs.Links.{RowPut}
use Rattle.listing.specs.declared.clash.Found.{Found}

-- x has the class c
abbrev pub typed : Size → List ℕ → ℕ → ℕ → Type 0
typed z t x c = leads z t (z.fields - 2) x c ≡ true

-- a class of x that clashes with a by the pairs P, or x has none
abbrev pub Partner : Size → List ℕ → List ℕ → ℕ → ℕ → Option ℕ → Type 0
Partner z t P x a None = (b : ℕ) → b < z.classes → has P a b ≡ true → typed z t x b → ⊥
Partner z t P x a (Some r) = (r < z.classes) × (has P a r ≡ true) × typed z t x r

-- r are two classes that clash
pub record Two (z : Size) (t P : List ℕ) (r : Found) : Type 0 where
  pub at : r.at < z.individuals
  pub one : r.one < z.classes
  pub other : r.other < z.classes
  pub pair : has P r.one r.other ≡ true
  pub has_one : typed z t r.at r.one
  pub has_other : typed z t r.at r.other

-- no classes of x clash
abbrev pub Apart : Size → List ℕ → List ℕ → ℕ → Type 0
Apart z t P x = (a b : ℕ) → a < z.classes → b < z.classes → has P a b ≡ true → typed z t x a → typed z t x b → ⊥

-- two classes of x that clash, or none do; and so of any individual
abbrev pub Pair : Size → List ℕ → List ℕ → ℕ → Option Found → Type 0
Pair z t P x None = Apart z t P x
Pair z t P x (Some r) = Two z t P r

abbrev pub Clashing : Size → List ℕ → List ℕ → Option Found → Type 0
Clashing z t P None = (x : ℕ) → x < z.individuals → Apart z t P x
Clashing z t P (Some r) = Two z t P r

-- m is l with a row of a clash as row n, which is accepted
pub record ClashPut (B : Book) (l : List ℕ) (n : ℕ) (m : List ℕ) : Type 0 where
  pub len : length m ≡ length l
  pub old : (k : ℕ) → k < n → row_at m k ≡ row_at l k
  pub accepted : accepts B m n ≡ true
  pub claims : claim_at B m n ≡ clash

-- the row r is one of a clash, wherever it is put down as row n behind those of l
abbrev pub ClashRow : Book → List ℕ → ℕ → Row → Type 0
ClashRow B l n r = (m : List ℕ) → RowPut l n r m → ClashPut B l n m
