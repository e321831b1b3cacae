-- The three lists that a caller lends, and what a run is told of their lengths.
use Rattle.std.specs.Prelude.{ℕ, ◌≡◌, List, Result, Ok, Err}
use Rattle.book.specs.Refusal.{number}
use Rattle.book.specs.Book.{Decoded, Book}
use Rattle.book.specs.declared.refusal.Refusal.{Refusal}
use Rattle.rules.specs.Ends.{Outcome, Refused, untouched, starts_with}
use Rattle.verdict.specs.declared.end.End.{End}
use Rattle.verdict.specs.declared.end.End.TheVariants.{Refused as refused}
use Rattle.saturation.specs.declared.lists.Lists.{Lists}
use Rattle.saturation.specs.Run.{Admitted}

-- y has the same references as x
pub record Same (x y : Lists) : Type 0 where
  pub types : y.types.ghost_name ≡ x.types.ghost_name
  pub edges : y.edges.ghost_name ≡ x.edges.ghost_name
  pub pairs : y.pairs.ghost_name ≡ x.pairs.ghost_name

-- what f makes of the three lists
abbrev pub over : {A : Type 0} → (List ℕ → List ℕ → List ℕ → A) → Lists → A
over f l = f l.types.now l.edges.now l.pairs.now

-- a budget is admitted, as the number that it is; or one of refusals 1 to 3 stands, whatever was read
pub record Admission (budget : ℕ) (ts es : List ℕ) (r : Result ℕ Refusal) : Type 0 where
  pub same : (b : ℕ) → r ≡ Ok b → b ≡ budget
  pub admitted : (b : ℕ) → r ≡ Ok b → Admitted budget ts es
  pub refused : (e : Refusal) → r ≡ Err e → (d : Decoded) (ps : List ℕ) (go : Book → Outcome) → starts_with d budget ts es ps go ≡ untouched ts es ps (Refused (number e))

-- the end of a run that may be refused
abbrev pub ended : Result End Refusal → End
ended (Ok r) = r
ended (Err e) = refused e
