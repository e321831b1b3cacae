use Prim.Native.Nat.{ℕ, ◌≤◌}
use mathlib.Core.Path.{sym, subst, ◌∙◌}
use lib.ListN.{length-replicate}
use Rattle.book.specs.Book.{decode}
use Rattle.book.proofs.Accepted.{checked_refused}
use Rattle.rules.proofs.Ended.{refused_book}
use Rattle.tables.proofs.Open.{checked_open, checked_rest}
use Rattle.saturation.proofs.saturate.Answers.{checked_room}
use Rattle.whatif.proofs.Answering.{effect_is}
use Rattle.whatif.proofs.Prospects.{alone_effect, record_within, record_inside, stops_left}
use Rattle.whatif.proofs.what_if.run_in.Goals as goal

pub returns-in_err-counts-clause-effect : goal.returns-in_err-counts-clause-effect
returns-in_err-counts-clause-effect g c = stops_left _ _ c.from_residual.ensures.1 (alone_effect c.args.book.now c.args.line.now c.args.budget _ _ _ _ _ _ c.before.before.in_err-counts.field-0.0 (refused_book _ _ _ (decode c.args.book.now) _ c.requires.admitted.low c.requires.admitted.edges c.requires.admitted.types _ (checked_refused _ _ _ c.check_book.ensures.book_checked _ c.in_err-counts.was)))

pub allot-requires : goal.allot-requires
allot-requires g c = let o = checked_open c.check_book.ensures.book_checked c.in_ok-counts.was (checked_room c.check_book.ensures.book_checked c.in_ok-counts.was (λ B d. subst (λ (m : ℕ). B.counts.concepts ≤ m) (sym (c.check_book.auto.offsets ∙ length-replicate {0} {A = ℕ} g.row.N 0)) (c.requires.in_bounds B d))) in record { fact = o; from_value = checked_rest c.check_book.ensures.book_checked c.in_ok-counts.was; admitted = c.requires.admitted; within = λ y next q. (record_within _ _ y next (sym c.record_at.ensures ∙ q), λ l. record_inside _ o y next (sym c.record_at.ensures ∙ q) l) }

pub returns-clause-effect : goal.returns-clause-effect
returns-clause-effect g c = let o = checked_open c.check_book.ensures.book_checked c.in_ok-counts.was (checked_room c.check_book.ensures.book_checked c.in_ok-counts.was (λ B d. subst (λ (m : ℕ). B.counts.concepts ≤ m) (sym (c.check_book.auto.offsets ∙ length-replicate {0} {A = ℕ} g.row.N 0)) (c.requires.in_bounds B d))) in c.allot.ensures.effect ∙ effect_is c.args.line.now o _ _ _ _ c.requires.admitted _ c.record_at.ensures
