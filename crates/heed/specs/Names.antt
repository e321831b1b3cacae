-- What a run names, and the step over the statements that count.
use Rattle.std.specs.Prelude.{ℕ, ◌/◌, ◌%◌, ◌^◌, ◌<◌, ◌≡◌, Bool, List, [], ◌∷◌, length, eqb, Option, Some, None, Result, Ok, Err}
use Rattle.book.specs.Refusal.{number}
use Rattle.book.specs.Reader.{on_turn, rest}
use Rattle.book.specs.Book.{refused}
use Rattle.book.specs.Within.{StatementWithin}
use Rattle.book.specs.declared.refusal.Refusal.{Refusal}
use Rattle.book.specs.declared.header.Counts.{Counts}
use Rattle.book.specs.declared.statement.Statement.{Statement}
use Rattle.book.proofs.Parsing.{Goes}
use Rattle.rules.specs.Spoken.{Who, whoever, one, Day, always, on, Reader, heedings, decode_for}
use Rattle.heed.specs.declared.names.Reader.{Reader as Named}
use Rattle.heed.specs.declared.names.Names.{Names}

abbrev pub bit_at : ℕ → ℕ → Bool
bit_at w r = eqb (w / 2 ^ r % 2) 1

-- the reader that a run names, with the table that is lent; the day that it names; and both
abbrev pub who_named : Option Named → Who
who_named None = whoever
who_named (Some r) = one r.number r.table.now

abbrev pub who_of : Names → Who
who_of n = who_named n.reader

abbrev pub day_named : Option ℕ → Day
day_named None = always
day_named (Some d) = on d

abbrev pub day_of : Names → Day
day_of n = day_named n.day

abbrev pub reader_of : Names → Reader
reader_of n = record { who = who_of n; day = day_of n }

-- a reader that is named is below 32, and his table has a word for each source: what refusals 14 and 15 leave
abbrev pub Ready : Names → Type 0
Ready n = (r : Named) → n.reader ≡ Some r → (r.number < 32) × (length r.table.now ≡ 1024)

-- nothing where nothing is wrong with what a run names; else the refusal of every book
pub record Fault (n : Names) (answer : Result (Unit {0}) Refusal) : Type 0 where
  pub none : answer ≡ Ok tt → Ready n
  pub refuses : (e : Refusal) → answer ≡ Err e → (s : List ℕ) → decode_for (reader_of n) s ≡ refused (number e)

-- the statements that count from `at` on are the one handed out and those that count behind it
pub record Step (s : List ℕ) (h : Counts) (r : Reader) (at : ℕ) (t : Option (Statement × ℕ)) : Type 0 where
  pub left : heedings r (rest s h at) ≡ on_turn t [] (λ x next. x ∷ heedings r (rest s h next))
  pub goes : (x : Statement) (next : ℕ) → t ≡ Some (x, next) → Goes 3 s at next
  pub within : (x : Statement) (next : ℕ) → t ≡ Some (x, next) → StatementWithin h x
