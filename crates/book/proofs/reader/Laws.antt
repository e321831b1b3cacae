-- The step over statements, and what is left of the statements after it.
use Prim.Native.Nat.{ℕ, zero, suc, ◌+◌, ◌-◌, ◌≤◌}
use native.Mathlib.Omega.{arith}
use mathlib.Core.Path.{◌≡◌, refl, sym, ap, ap₂, ◌∙◌}
use mathlib.Core.List.{List, [], ◌∷◌, ◌++◌, append_assoc}
use lib.ListN.{length}
use Rattle.std.specs.Prelude.{Option, Some, None}
use Rattle.std.proofs.lemmas.Option.{some_pair_parts}
use Rattle.book.specs.declared.header.Counts.{Counts}
use Rattle.book.specs.declared.statement.Statement.{Statement}
use Rattle.book.specs.Read.{Read, value, refusal, several}
use Rattle.book.specs.Statement.{statement}
use Rattle.book.specs.Reader.{turn_of, turn_at_lem, on_turn, up_to, rest}
use Rattle.book.specs.Within.{StatementWithin}
use Rattle.book.proofs.Parsing.{came, same_value, Goes}
use Rattle.book.proofs.statement.Laws.{statement_within, statement_goes}

module _ (s : List ℕ) (h : Counts) where
  turned : (r : Read Statement) (x : Statement) (next : ℕ) → turn_of r ≡ Some (x, next) → r ≡ value x next
  turned (value y m) x next t = let e = some_pair_parts y x m next t in ap₂ value e.0 e.1
  turned (refusal n) x next t = absurd (let z : ◌≡◌ {A = ℕ} 0 1 = cc in omega arith)

  turn_statement : (at : ℕ) (x : Statement) (next : ℕ) → turn_at_lem s h at ≡ Some (x, next) → statement h s at ≡ value x next
  unfolding turn_at_lem
  turn_statement at x next t = turned (statement h s at) x next t

  turn_of_lem : (at : ℕ) (x : Statement) (next : ℕ) → statement h s at ≡ value x next → turn_at_lem s h at ≡ Some (x, next)
  unfolding turn_at_lem
  turn_of_lem at x next e = simp e

  -- a statement takes at least three bytes, and ends within the book
  pub turn_goes : (at : ℕ) (x : Statement) (next : ℕ) → turn_at_lem s h at ≡ Some (x, next) → Goes 3 s at next
  turn_goes at x next t = statement_goes s h at x next (turn_statement at x next t)

  pub turn_within : (at : ℕ) (x : Statement) (next : ℕ) → turn_at_lem s h at ≡ Some (x, next) → StatementWithin h x
  turn_within at x next t = statement_within s h at x next (turn_statement at x next t)

  -- no statement starts behind the book
  nothing_left : (n at : ℕ) → length s ≤ at → up_to n s h at ≡ []
  unfolding up_to
  nothing_left zero at l = refl
  nothing_left (suc n) at l = none (turn_at_lem s h at) refl
    where
      none : (t : Option (Statement × ℕ)) → turn_at_lem s h at ≡ t → on_turn t [] (λ x next. x ∷ up_to n s h next) ≡ []
      none None q = refl
      none (Some (x, next)) q = let g = turn_goes at x next q in absurd (omega (arith, g.0, g.1))

  -- more turns than there are bytes give no more statements
  enough : (m n at : ℕ) → length s ≤ m + at → length s ≤ n + at → up_to m s h at ≡ up_to n s h at
  unfolding up_to
  enough zero n at a b = sym (nothing_left n at (omega arith))
  enough (suc m) zero at a b = nothing_left (suc m) at (omega arith)
  enough (suc m) (suc n) at a b = one (turn_at_lem s h at) refl (λ next c d. enough m n next c d)
    where
      one : (t : Option (Statement × ℕ)) → turn_at_lem s h at ≡ t → ((next : ℕ) → length s ≤ m + next → length s ≤ n + next → up_to m s h next ≡ up_to n s h next) → on_turn t [] (λ x next. x ∷ up_to m s h next) ≡ on_turn t [] (λ x next. x ∷ up_to n s h next)
      one None q ih = refl
      one (Some (x, next)) q ih = let g = turn_goes at x next q in ap (λ (l : List Statement). x ∷ l) (ih next (omega (arith, g.0)) (omega (arith, g.0)))

  one_less : (k at : ℕ) (x : Statement) (next : ℕ) → turn_at_lem s h at ≡ Some (x, next) → up_to (suc k) s h at ≡ x ∷ up_to k s h next
  unfolding up_to
  one_less k at x next e = simp e

  -- the two laws of a loop over the statements
  pub rest_next : (at : ℕ) (x : Statement) (next : ℕ) → turn_at_lem s h at ≡ Some (x, next) → rest s h at ≡ x ∷ rest s h next
  unfolding rest
  rest_next at x next e =
      let g = turn_goes at x next e in
      let q : length s - at ≡ suc (length s - at - 1) = omega (arith, g.0, g.1) in
      ap (λ (n : ℕ). up_to n s h at) q
      ∙ (one_less (length s - at - 1) at x next e
      ∙ ap (λ (l : List Statement). x ∷ l) (enough (length s - at - 1) (length s - next) next (omega (arith, g.0, g.1)) (omega (arith, g.0, g.1))))

  stopped : (n at : ℕ) → turn_at_lem s h at ≡ None → up_to n s h at ≡ []
  unfolding up_to
  stopped zero at e = refl
  stopped (suc n) at e = simp e

  pub rest_end : (at : ℕ) → turn_at_lem s h at ≡ None → rest s h at ≡ []
  unfolding rest
  rest_end at e = stopped (length s - at) at e

  pub rest_behind : (at : ℕ) → length s ≤ at → rest s h at ≡ []
  unfolding rest
  rest_behind at l = nothing_left (length s - at) at l

  -- statements that were read one after the other stand in front of what is left
  pub rest_several : (k at : ℕ) (xs : List Statement) (here : ℕ) → several (statement h) k s at ≡ value xs here → rest s h at ≡ xs ++ rest s h here
  unfolding several
  rest_several zero at xs here t = let e = same_value [] xs at here t in rw (← e.0, e.1) refl
  rest_several (suc k) at xs here t = step (rest_several k at)
    where
      step : ((ys : List Statement) (m : ℕ) → several (statement h) k s at ≡ value ys m → rest s h at ≡ ys ++ rest s h m) → rest s h at ≡ xs ++ rest s h here
      step ih =
          let a = came (several (statement h) k s at) _ xs here t in
          let b = came (statement h s a.1) _ xs here a.3 in
          let e = same_value (a.0 ++ (b.0 ∷ [])) xs b.1 here b.3 in
          let turn : turn_at_lem s h a.1 ≡ Some (b.0, b.1) = turn_of_lem a.1 b.0 b.1 b.2 in
          ih a.0 a.1 a.2
          ∙ (ap (λ (l : List Statement). a.0 ++ l) (rest_next a.1 b.0 b.1 turn)
          ∙ (sym (append_assoc a.0 (b.0 ∷ []) (rest s h b.1))
          ∙ ap₂ (λ (l : List Statement) (n : ℕ). l ++ rest s h n) e.0 e.1))
