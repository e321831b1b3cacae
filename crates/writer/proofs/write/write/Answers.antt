use mathlib.Core.Path.{ap, ◌∙◌}
use Rattle.book.proofs.Accepted.{checked_accepted, checked_refused}
use Rattle.writer.specs.Written.{Answer}
use Rattle.writer.proofs.Parts.{located, writes_accepted, writes_refused, refused_as}
use Rattle.writer.proofs.write.write.Goals as goal

pub write_accepted-requires : goal.write_accepted-requires
write_accepted-requires c = located c.args.book.now _ _ _ _ c.check_book.new.offsets c.check_book.auto.offsets c.check_book.ensures.book_checked c.in_ok-counts.was c.front_of-front.ensures

pub returns-in_err-counts : goal.returns-in_err-counts
returns-in_err-counts c =
    let e = c.in_err-counts.field-0.0 in
    ap (λ (a : Answer). record { answer = a; out = c.args.out.now }) (refused_as _ e c.from_residual.ensures.1)
    ∙ writes_refused c.args.book.now c.args.out.now _ (checked_refused _ _ _ c.check_book.ensures.book_checked e c.in_err-counts.was)

pub returns : goal.returns
returns c =
    let k = checked_accepted _ _ _ c.check_book.ensures.book_checked _ _ c.in_ok-counts.was in
    c.write_accepted.ensures ∙ writes_accepted c.args.book.now c.args.out.now k.0 k.1
