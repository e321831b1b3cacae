-- The row of a clash by denial (src/deny.rt).
use Rattle.std.specs.Prelude.{ℕ, ◌<◌, ◌≡◌, true, false, List, [], ◌∷◌, Option, None, Some}
use Rattle.book.specs.Reader.{turn_at_lem}
use Rattle.book.specs.declared.header.Counts.{Counts}
use Rattle.book.specs.declared.statement.Statement.{Statement}
use Rattle.book.specs.declared.statement.Axiom.{Axiom}
use Rattle.rules.specs.Rule.{some}
use Rattle.rules.specs.Clash.{denied_by}
use Rattle.tables.specs.Open.{book_of}
use Rattle.derivation.specs.Rows.{says, says_row, before}
use Rattle.derivation.specs.Accept.{statements, member, denies_one}
use Rattle.steps.specs.Written.{known_in}
use Rattle.listing.specs.declared.deny.Denier.{Denier}

-- what x denies is not known in t; or x denies what row k says, or, if k is none, what is known by the told classes alone
abbrev pub Denial : List ℕ → Counts → List ℕ → List ℕ → ℕ → Axiom → Option ℕ → Type 0
Denial s h t l n x None = some (denied_by x) (known_in h t) ≡ false
Denial s h t l n x (Some k) = (before n k ≡ true) × (denies_one (book_of s) (says (says_row h l k)) x ≡ true)

-- so of the statement at an offset
abbrev pub DenialAt : List ℕ → Counts → List ℕ → List ℕ → ℕ → ℕ → Option ℕ → Type 0
DenialAt s h t l n at r = (z : Statement) (next : ℕ) → turn_at_lem s h at ≡ Some (z, next) → Denial s h t l n z.body r

-- the statement that r names denies what the row that it names says
pub record Denies (s : List ℕ) (h : Counts) (l : List ℕ) (n : ℕ) (r : Denier) : Type 0 where
  pub it : Axiom
  pub there : member (statements (book_of s)) r.statement ≡ it ∷ []
  pub below : r.statement < h.statements
  pub lower : before n r.place ≡ true
  pub by_row : denies_one (book_of s) (says (says_row h l r.place)) it ≡ true
