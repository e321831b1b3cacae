-- What the exit of a `?` answers: the refusal that came through it.
use Prim.Native.Nat.{ℕ}
use mathlib.Core.Path.{◌≡◌, ap, ◌∙◌}
use Rattle.std.specs.Prelude.{Result, Ok, Err, IsErrAnd}
use Rattle.book.specs.declared.refusal.Refusal.{Refusal}
use Rattle.book.specs.declared.table.ConceptKind.{ConceptKind}
use Rattle.book.specs.declared.statement.Head.{Head}
use Rattle.book.specs.Refusal.{number}
use Rattle.book.specs.Read.{Read, refusal, as_read, as_passed}
use Rattle.book.specs.Table.{Start}
use Rattle.book.specs.Concept as Concept
use Rattle.book.specs.Statement as Statement

pub read_stops : {A : Type 0} (r : Result (A × ℕ) Refusal) (e : Refusal) → IsErrAnd r (λ y. y ≡ e) → as_read r ≡ refusal (number e)
read_stops (Ok a) e p = absurd p
read_stops (Err y) e p = ap (λ (z : Refusal). refusal (number z)) p

pub passed_stops : (r : Result ℕ Refusal) (e : Refusal) → IsErrAnd r (λ y. y ≡ e) → as_passed r ≡ refusal (number e)
passed_stops (Ok a) e p = absurd p
passed_stops (Err y) e p = ap (λ (z : Refusal). refusal (number z)) p

-- and so the answer is what that refusal is
pub stops_read : {A : Type 0} (r : Result (A × ℕ) Refusal) (e : Refusal) (x : Read A) → IsErrAnd r (λ y. y ≡ e) → refusal (number e) ≡ x → as_read r ≡ x
stops_read r e x p q = read_stops r e p ∙ q

pub stops_passed : (r : Result ℕ Refusal) (e : Refusal) (x : Read (Unit {0})) → IsErrAnd r (λ y. y ≡ e) → refusal (number e) ≡ x → as_passed r ≡ x
stops_passed r e x p q = passed_stops r e p ∙ q

pub stops_headed : (r : Result (ConceptKind × ℕ) Refusal) (e : Refusal) (x : Read Start) → IsErrAnd r (λ y. y ≡ e) → refusal (number e) ≡ x → Concept.headed (as_read r) ≡ x
stops_headed r e x p q = ap Concept.headed (read_stops r e p) ∙ q

pub stops_stated : (r : Result (Head × ℕ) Refusal) (e : Refusal) (x : Read Start) → IsErrAnd r (λ y. y ≡ e) → refusal (number e) ≡ x → Statement.headed (as_read r) ≡ x
stops_stated r e x p q = ap Statement.headed (read_stops r e p) ∙ q
