-- What the copy comes to before its run.
use Rattle.std.specs.Prelude.{ℕ, ◌*◌, ◌<◌, ◌≤◌, ◌≡◌, List, length, ltb, Option, Some, None, Result, Ok, Err}
use Rattle.book.specs.Read.{pick, Read, value}
use Rattle.book.specs.Book.{Book, Decoded, refused}
use Rattle.book.specs.declared.statement.Statement.{Statement}
use Rattle.rules.specs.Ends.{End, Refused, Finished, Outcome, untouched, starts_with}
use Rattle.effect.specs.Copy.{entered}
use Rattle.book.specs.Refusal.{number}
use Rattle.book.specs.declared.refusal.Refusal.{Refusal}

-- the copy of a book, by what was read of the record
abbrev pub with_read : Book → Read Statement → Decoded
with_read B x = pick (ltb B.counts.statements 4096) (entered B x) (refused 6)

-- the present run has finished
abbrev pub Finishes : End → Type 0
Finishes e = (t : ℕ) × (k : ℕ) × (p : ℕ) × (e ≡ Finished t k p)

pub record Begun (e : End) (n budget : ℕ) (x : Read Statement) (edges types : ℕ) (r : Option (Result Statement Refusal)) : Type 0 where
  pub alone : r ≡ None → Finishes e → ⊥
  pub refused : (k : Refusal) → r ≡ Some (Err k) → Finishes e
      × ((B : Book) (ts es ps : List ℕ) (go : Book → Outcome) → B.counts.statements ≡ n → length ts ≡ types → length es ≡ edges → starts_with (with_read B x) budget ts es ps go ≡ untouched ts es ps (Refused (number k)))
  pub goes : (y : Statement) → r ≡ Some (Ok y) → Finishes e × (3 * budget ≤ edges) × (2 * budget ≤ types) × (n < 4096) × ((next : ℕ) × (x ≡ value y next))
