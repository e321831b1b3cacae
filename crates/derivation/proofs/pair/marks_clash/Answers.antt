use native.Mathlib.Omega.{arith}
use mathlib.Core.Path.{sym, ◌∙◌}
use Rattle.derivation.proofs.Pairing.{marks_both, marks_none}
use borrow.Author.Tests.{eqb-true}
use Rattle.derivation.proofs.pair.marks_clash.Goals as goal

pub member-under-requires : goal.member-under-requires
member-under-requires c = (omega arith, omega (arith, c.role_in-r.ensures, c.requires.2 (eqb-true _ 5 (sym c.is_marker.ensures ∙ c.if-is_marker.true))))

pub returns-then-is_marker : goal.returns-then-is_marker
returns-then-is_marker c = marks_both c.args.functional.now c.args.disjoint.now c.args.x c.args.y (sym c.is_marker.ensures ∙ c.if-is_marker.true) c.role_in-r.ensures c.filler_in-c.ensures.0 c.filler_in-d.ensures.0 c.member-under.ensures c.member-apart.ensures c.is_marker-then-is_marker.ensures c.role_in.ensures

pub returns : goal.returns
returns c = marks_none c.args.functional.now c.args.disjoint.now c.args.x c.args.y (sym c.is_marker.ensures ∙ c.if-is_marker.false)
