use native.Mathlib.Omega.{arith}
use Rattle.rules.specs.Fact.{edge}
use Rattle.derivation.proofs.fact.edge_of.Goals as goal

pub overflow_mul-result : goal.overflow_mul-result
overflow_mul-result c = omega (arith, rw c.in-Named.is at c.requires.0)

pub overflow_add-result : goal.overflow_add-result
overflow_add-result c = omega (arith, rw c.in-Named.is at c.requires.0)

pub overflow_mul-result-in-Named : goal.overflow_mul-result-in-Named
overflow_mul-result-in-Named c = omega (arith, rw c.in-Named.is at c.requires.0)

pub overflow_add-result-in-Named : goal.overflow_add-result-in-Named
overflow_add-result-in-Named c = omega (arith, rw c.in-Named.is at c.requires.0)

pub overflow_mul-result-in-Inverse : goal.overflow_mul-result-in-Inverse
overflow_mul-result-in-Inverse c = omega (arith, rw c.in-Inverse.is at c.requires.0)

pub overflow_add-result-in-Inverse : goal.overflow_add-result-in-Inverse
overflow_add-result-in-Inverse c = omega (arith, rw c.in-Inverse.is at c.requires.0)

pub overflow_mul-result-in-Inverse-2 : goal.overflow_mul-result-in-Inverse-2
overflow_mul-result-in-Inverse-2 c = omega (arith, rw c.in-Inverse.is at c.requires.0)

pub overflow_add-result-in-Inverse-2 : goal.overflow_add-result-in-Inverse-2
overflow_add-result-in-Inverse-2 c = omega (arith, rw c.in-Inverse.is at c.requires.0)

pub returns-in-Named : goal.returns-in-Named
unfolding edge
returns-in-Named c = simp c.in-Named.is

pub returns-in-Inverse : goal.returns-in-Inverse
unfolding edge
returns-in-Inverse c = simp c.in-Inverse.is
