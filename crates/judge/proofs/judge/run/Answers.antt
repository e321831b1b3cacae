use Prim.Native.Nat.{ℕ, ◌≤◌}
use mathlib.Core.Path.{ap, sym, subst, ◌∙◌}
use lib.ListN.{length-replicate}
use Rattle.book.proofs.Accepted.{accepted_limits}
use Rattle.tables.proofs.Open.{checked_open, checked_rest}
use Rattle.saturation.proofs.saturate.Answers.{checked_room, refused_first}
use Rattle.rules.specs.Spoken.{decode_for}
use Rattle.heed.specs.Names.{reader_of}
use Rattle.member.specs.Answer.{questioned}
use Rattle.member.proofs.Judged.{member_refused}
use Rattle.judge.proofs.Asked.{refused_gave, refused_read, stops_gave}
use Rattle.judge.proofs.judge.run.Goals as goal

pub returns-in_err-admitted-clause-answer : goal.returns-in_err-admitted-clause-answer
returns-in_err-admitted-clause-answer c =
    let d = decode_for (reader_of c.args.names) c.args.book.now in
    stops_gave _ _ c.from_residual.ensures.1 (sym (member_refused c.args.budget _ _ _ c.args.question.individual c.args.question.concept d _ (sym (refused_first c.admit.ensures c.in_err-admitted.was (questioned c.args.question.individual c.args.question.concept d) _))))

pub returns-in_err-fault-clause-answer : goal.returns-in_err-fault-clause-answer
returns-in_err-fault-clause-answer c =
    stops_gave _ _ c.from_residual-in_err-fault.ensures.1 (refused_gave (c.admit.ensures.admitted _ c.in_ok-admitted.was) _ c.args.question.individual c.args.question.concept (reader_of c.args.names) c.args.book.now c.before.before.in_err-fault.field-0.0 (ap (questioned c.args.question.individual c.args.question.concept) (c.fault.ensures.refuses _ c.in_err-fault.was c.args.book.now)))

pub returns-in_err-counts-clause-answer : goal.returns-in_err-counts-clause-answer
returns-in_err-counts-clause-answer c =
    stops_gave _ _ c.from_residual-in_err-counts.ensures.1 (refused_read (c.admit.ensures.admitted _ c.in_ok-admitted.was) _ c.args.question.individual c.args.question.concept c.args.names (c.fault.ensures.none c.in_ok-fault.was) c.check_book.ensures.book_checked c.in_err-counts.was)

pub invariant_of-open : goal.invariant_of-open
invariant_of-open c = record { opened = checked_open c.check_book.ensures.book_checked c.in_ok-counts.was (checked_room c.check_book.ensures.book_checked c.in_ok-counts.was (λ B d. subst (λ (m : ℕ). B.counts.concepts ≤ m) (sym (c.check_book.auto.offsets ∙ length-replicate {0} {A = ℕ} 4096 0)) (accepted_limits _ B d).concepts_top)) }

pub run_accepted-requires-clause-from_value : goal.run_accepted-requires-clause-from_value
run_accepted-requires-clause-from_value c = checked_rest c.check_book.ensures.book_checked c.in_ok-counts.was
