use mathlib.Core.Path.{refl}
use native.Mathlib.Omega.{arith}
use Rattle.listing.proofs.Running.{used_few}
use Rattle.listing.proofs.run.number.Goals as goal

pub overflow_add-types : goal.overflow_add-types
overflow_add-types c = omega (arith, c.requires.edges_value, used_few c.args.book.now c.requires.book_value)

pub returns : goal.returns
returns c = rw c.joinings_due-joinings.ensures refl
