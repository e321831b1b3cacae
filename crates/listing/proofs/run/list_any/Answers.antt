use mathlib.Core.Path.{◌≡◌}
use native.Mathlib.Omega.{arith}
use Prim.Native.Nat.{ℕ}
use Rattle.book.proofs.Accepted.{checked_refused}
use Rattle.tables.proofs.Open.{checked_open, checked_rest}
use Rattle.derivation.proofs.Preparing.{checked_few}
use Rattle.listing.proofs.run.list_any.Goals as goal

pub returns-in_default : goal.returns-in_default
returns-in_default c = let e = checked_refused _ _ _ c.check_book.ensures.book_checked _ c.in_default.is in absurd (let z : ◌≡◌ {A = ℕ} 0 1 = cc in omega arith)

pub invariant_of-open : goal.invariant_of-open
invariant_of-open c = record { opened = checked_open c.check_book.ensures.book_checked c.in-Ok.is (omega (arith, checked_few c.check_book.ensures.book_checked c.in-Ok.is, c.requires.in_bounds, c.offsets-1.given)) }

pub list_checked-requires : goal.list_checked-requires
list_checked-requires c = record { from_value = checked_rest c.check_book.ensures.book_checked c.in-Ok.is; ran = c.requires.ran }

pub returns : goal.returns
returns c = c.list_checked.ensures
