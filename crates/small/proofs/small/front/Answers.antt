-- `front` is the header for one statement or two, with the concept: computed. Assumes nothing.
use Prim.Native.Nat.{ℕ, zero, suc, ◌≤◌}
use native.Mathlib.Omega.{arith}
use mathlib.Core.Path.{◌≡◌, refl}
use mathlib.Core.Logic.{◌⊎◌, inl, inr, ⊎_elim}
use Rattle.book.specs.Bytes.{header_bytes}
use borrow.Author.Rules.{rules}
use Rattle.small.proofs.small.front.Goals as goal

one-or-two : (n : ℕ) → 1 ≤ n → n ≤ 2 → (n ≡ 1) ⊎ (n ≡ 2)
one-or-two zero l m = absurd (omega arith)
one-or-two (suc zero) l m = inl refl
one-or-two (suc (suc zero)) l m = inr refl
one-or-two (suc (suc (suc n))) l m = absurd (omega arith)

pub returns : goal.returns
unfolding header_bytes
returns c = ⊎_elim (λ e. rw e refl) (λ e. rw e refl) (one-or-two c.args.statements (search rules) (search rules))
