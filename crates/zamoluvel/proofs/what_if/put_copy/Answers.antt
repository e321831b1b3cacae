use Rattle.std.specs.Prelude.{ℕ}
use mathlib.Core.Path.{ap, refl, ◌∙◌}
use Rattle.zamoluvel.proofs.what_if.put_copy.Goals as goal

pub returns : goal.returns
returns c = c.put-4.ensures ∙ rw (ap (λ (p : ℕ × ℕ × ℕ). p.2) c.further_counts-types.ensures, c.put-3.ensures, ap (λ (p : ℕ × ℕ × ℕ). p.1) c.further_counts-types.ensures, c.put-2.ensures, ap (λ (p : ℕ × ℕ × ℕ). p.0) c.further_counts-types.ensures, c.put.ensures, c.further_code.ensures) refl
