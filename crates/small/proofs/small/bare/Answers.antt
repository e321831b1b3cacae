-- `bare` is the book without statements: computed. Assumes nothing.
use mathlib.Core.Path.{refl}
use Rattle.book.specs.Bytes.{header_bytes, statements_bytes}
use Rattle.small.specs.Books.{book_of}
use Rattle.small.proofs.small.bare.Goals as goal

pub returns : goal.returns
unfolding book_of header_bytes statements_bytes
returns c = refl
