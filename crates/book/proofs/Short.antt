-- A short book has few concepts.
use Prim.Native.Nat.{ℕ, ◌*◌, ◌≤◌}
use native.Mathlib.Omega.{arith}
use mathlib.Core.Path.{◌≡◌}
use mathlib.Core.List.{List}
use lib.ListN.{length}
use Rattle.book.specs.Book.{Book, accepted, decode}
use Rattle.book.proofs.header.Laws.{header_goes}
use Rattle.book.proofs.Accepted.{layout}
use Rattle.book.proofs.Local.{concepts_long}

-- at most one for every two bytes
pub short_concepts : (s : List ℕ) (b : Book) → decode s ≡ accepted b → 2 * b.counts.concepts ≤ length s
short_concepts s b whole =
    let l = layout s b whole in
    let g = header_goes s 0 b.counts l.at l.head in
    let c = concepts_long b.counts b.counts.concepts s l.at b.concepts l.start g.1 l.trees in
    omega (arith, g.0, c.0, c.1)
