use Rattle.saturation.proofs.allot.Words.{within, fresh_of}
use Rattle.listing.proofs.Counting.{joined_all}
use Rattle.tables.proofs.Blank.{blank}
use Rattle.derivation.proofs.Preparing.{enough}
use Rattle.tables.proofs.Open.{open_limits}
use native.Mathlib.Omega.{arith}
use mathlib.Core.Path.{sym, ◌∙◌, subst}
use Prim.Native.Nat.{ℕ, ◌≤◌}
use Rattle.listing.proofs.join.count_in.Goals as goal

pub read_told-requires : goal.read_told-requires
read_told-requires g c = record { from_value = c.requires.from_value; blank = (blank g.row.P, enough g.row.P _ c.requires.takers.0, enough 512 512 (omega arith)) }

pub draw-requires-clause-fresh : goal.draw-requires-clause-fresh
draw-requires-clause-fresh g c = fresh_of c.requires.enough

pub draw-requires-clause-concepts_in_bounds : goal.draw-requires-clause-concepts_in_bounds
draw-requires-clause-concepts_in_bounds g c = within g.row.K _ c.requires.enough.leaves

pub count_all-requires : goal.count_all-requires
count_all-requires g c =
    let l = (open_limits c.args.book.opened).individuals_top in
    (l, c.read_told.ensures.1, subst (λ (n : ℕ). c.args.book.counts.individuals ≤ n) (sym c.draw.auto.labels) (within g.row.L _ c.requires.enough.labels))

pub returns : goal.returns
returns g c = c.count_all.ensures ∙ joined_all c.args.book.opened c.draw.ensures.drawn (omega (arith, c.requires.used_value)) c.read_told.ensures.0
