use Rattle.std.specs.Prelude.{ℕ}
use mathlib.Core.Path.{ap, refl, ◌∙◌}
use Rattle.zamoluvel.proofs.is.put_counts.Goals as goal

pub returns : goal.returns
returns c = c.put-3.ensures ∙ rw (ap (λ (p : ℕ × ℕ × ℕ). p.2) c.counts_of_run-types.ensures, c.put-2.ensures, ap (λ (p : ℕ × ℕ × ℕ). p.1) c.counts_of_run-types.ensures, c.put.ensures, ap (λ (p : ℕ × ℕ × ℕ). p.0) c.counts_of_run-types.ensures) refl
