use lib.ListN.{get_or}
use Prim.Native.Nat.{ℕ, ◌%◌}
use native.Mathlib.Omega.{arith}
use mathlib.Core.Path.{ap, ◌∙◌}
use Rattle.figure.specs.Record.{numbers_of_lem, marks_of_lem, next_at}
use Rattle.figure.proofs.record.next_at.Goals as goal

pub overflow_add-at : goal.overflow_add-at
unfolding next_at
overflow_add-at c = omega arith

pub number_at-map-requires : goal.number_at-map-requires
unfolding next_at
number_at-map-requires c = omega arith

pub overflow_add-result : goal.overflow_add-result
unfolding next_at
overflow_add-result c = omega arith

pub bounds-book-at : goal.bounds-book-at
unfolding next_at
bounds-book-at c = omega arith

pub overflow_add-result-2 : goal.overflow_add-result-2
unfolding next_at
overflow_add-result-2 c = let f = c.numbers_of.ensures ∙ ap (λ (n : ℕ). numbers_of_lem (get_or c.args.book.now c.args.at 0) (n % 256)) c.number_at-map.ensures in omega (arith, c.requires, c.number_at-map.ensures, f)

pub overflow_add-result-3 : goal.overflow_add-result-3
unfolding next_at
overflow_add-result-3 c = let f = c.numbers_of.ensures ∙ ap (λ (n : ℕ). numbers_of_lem (get_or c.args.book.now c.args.at 0) (n % 256)) c.number_at-map.ensures in let g = c.marks_of.ensures ∙ ap (λ (n : ℕ). marks_of_lem n) c.number_at-map.ensures in omega (arith, c.requires, c.number_at-map.ensures, f, g)

pub returns : goal.returns
unfolding next_at
returns c = let f = c.numbers_of.ensures ∙ ap (λ (n : ℕ). numbers_of_lem (get_or c.args.book.now c.args.at 0) (n % 256)) c.number_at-map.ensures in let g = c.marks_of.ensures ∙ ap (λ (n : ℕ). marks_of_lem n) c.number_at-map.ensures in omega (arith, c.requires, c.number_at-map.ensures, f, g)
