use native.Mathlib.Omega.{arith}
use Rattle.denial.proofs.Left.{field_low, led_room, edge_there}
use Rattle.denial.proofs.deny.leads.Goals as goal

pub row_of-k-requires : goal.row_of-k-requires
row_of-k-requires c = rw (c.size_of.ensures, c.field_of.ensures) (c.requires.limits.1.sized, field_low c.args.counts c.args.role c.requires.role_within.0, omega (arith, c.requires.role_within.1, c.requires.limits.0.individuals_top))

pub member-requires : goal.member-requires
member-requires c = rw (c.row_of-k.ensures.0, c.size_of.ensures, c.field_of.ensures) (led_room c.args.counts c.requires.limits.1 c.args.role c.args.a c.requires.role_within.0 c.requires.role_within.1, omega (arith, c.requires.role_within.2, c.requires.limits.0.individuals_top))

pub returns : goal.returns
returns c = let k = rw (c.size_of.ensures, c.field_of.ensures) at c.row_of-k.ensures.0 in λ K. edge_there c.args.counts c.requires.limits.0 c.requires.limits.1 K c.args.role c.args.a c.args.b c.requires.role_within.0 c.requires.role_within.1 c.requires.role_within.2 (rw k at c.member.ensures)
