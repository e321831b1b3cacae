use mathlib.Core.Path.{refl}
use mathlib.Core.Logic.{inl, inr}
use Rattle.whatif.proofs.subtract.pass_row.Goals as goal

pub returns-then-stands : goal.returns-then-stands
returns-then-stands c =
    let e = c.stands.ensures.0 c.if-stands.true in
    inl (record { low = e.0; same = e.1; stays = refl; next = refl; here = refl })

pub returns : goal.returns
returns c = inr (record { new = c.stands.ensures.1 c.if-stands.false; moved = c.move_row.ensures; next = refl; here = refl })
