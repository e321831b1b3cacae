use native.Mathlib.Omega.{arith}
use Rattle.derivation.proofs.fact.leads_from.Goals as goal

pub returns-in-Named : goal.returns-in-Named
returns-in-Named c = (simp c.in-Named.is, omega arith)

pub returns-in-Inverse : goal.returns-in-Inverse
returns-in-Inverse c = (simp c.in-Inverse.is, omega arith)
