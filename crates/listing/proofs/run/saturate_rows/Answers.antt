use mathlib.Core.Path.{ap, sym, ◌∙◌}
use Rattle.rules.specs.Ends.{Refused, Spent, Clash, Finished, outcome}
use Rattle.book.specs.Refusal.{number}
use Rattle.verdict.specs.Conclude.{end_of}
use Rattle.listing.proofs.Running.{ran_used, ran_of, plainly, run_early, run_spent, run_rows}
use Rattle.listing.proofs.run.saturate_rows.Goals as goal

pub number-numbers-requires : goal.number-numbers-requires
number-numbers-requires c =
    let o = outcome c.args.book.now c.args.budget c.args.types.now c.args.edges.now c.run_plain-end.ensures.list in
    let z = plainly c.args.book.now c.args.budget c.args.types.now c.args.edges.now c.args.rows.now c.run_plain-end.ensures.list c.run_plain-end.ensures.room in
    let w = (z (Clash c.in-Clash.t c.in-Clash.e) (sym c.run_plain-end.ensures.ends ∙ ap end_of c.in-Clash.is)) in record { book_value = w.ran.whole; edges_value = ran_used w.ran; pairs_value = w.pairs }

pub run_listed-requires : goal.run_listed-requires
run_listed-requires c =
    let o = outcome c.args.book.now c.args.budget c.args.types.now c.args.edges.now c.run_plain-end.ensures.list in
    let z = plainly c.args.book.now c.args.budget c.args.types.now c.args.edges.now c.args.rows.now c.run_plain-end.ensures.list c.run_plain-end.ensures.room in
    rw c.number-numbers.ensures (ran_of c.args.book.now c.args.budget c.args.types.now c.args.edges.now c.args.rows.now o _ (z (Clash c.in-Clash.t c.in-Clash.e) (sym c.run_plain-end.ensures.ends ∙ ap end_of c.in-Clash.is)) c.run_plain-end.ensures.types)

pub number-numbers-requires-in-Finished : goal.number-numbers-requires-in-Finished
number-numbers-requires-in-Finished c =
    let o = outcome c.args.book.now c.args.budget c.args.types.now c.args.edges.now c.run_plain-end.ensures.list in
    let z = plainly c.args.book.now c.args.budget c.args.types.now c.args.edges.now c.args.rows.now c.run_plain-end.ensures.list c.run_plain-end.ensures.room in
    let w = (z (Finished c.in-Finished.t c.in-Finished.e c.in-Finished.p) (sym c.run_plain-end.ensures.ends ∙ ap end_of c.in-Finished.is)) in record { book_value = w.ran.whole; edges_value = ran_used w.ran; pairs_value = w.pairs }

pub run_listed-requires-in-Finished : goal.run_listed-requires-in-Finished
run_listed-requires-in-Finished c =
    let o = outcome c.args.book.now c.args.budget c.args.types.now c.args.edges.now c.run_plain-end.ensures.list in
    let z = plainly c.args.book.now c.args.budget c.args.types.now c.args.edges.now c.args.rows.now c.run_plain-end.ensures.list c.run_plain-end.ensures.room in
    rw c.number-numbers-in-Finished.ensures (ran_of c.args.book.now c.args.budget c.args.types.now c.args.edges.now c.args.rows.now o _ (z (Finished c.in-Finished.t c.in-Finished.e c.in-Finished.p) (sym c.run_plain-end.ensures.ends ∙ ap end_of c.in-Finished.is)) c.run_plain-end.ensures.types)

pub returns-in-Refused : goal.returns-in-Refused
returns-in-Refused c =
    let o = outcome c.args.book.now c.args.budget c.args.types.now c.args.edges.now c.run_plain-end.ensures.list in
    let z = plainly c.args.book.now c.args.budget c.args.types.now c.args.edges.now c.args.rows.now c.run_plain-end.ensures.list c.run_plain-end.ensures.room in
    run_early c.args.book.now c.args.budget c.args.types.now c.args.edges.now c.args.rows.now o (number c.in-Refused.refusal) (z (Refused (number c.in-Refused.refusal)) (sym c.run_plain-end.ensures.ends ∙ ap end_of c.in-Refused.is)) c.run_plain-end.ensures.types c.run_plain-end.ensures.edges

pub returns-in-Spent : goal.returns-in-Spent
returns-in-Spent c =
    let o = outcome c.args.book.now c.args.budget c.args.types.now c.args.edges.now c.run_plain-end.ensures.list in
    let z = plainly c.args.book.now c.args.budget c.args.types.now c.args.edges.now c.args.rows.now c.run_plain-end.ensures.list c.run_plain-end.ensures.room in
    run_spent c.args.book.now c.args.budget c.args.types.now c.args.edges.now c.args.rows.now o (z Spent (sym c.run_plain-end.ensures.ends ∙ ap end_of c.in-Spent.is)) c.run_plain-end.ensures.types c.run_plain-end.ensures.edges

pub returns-in-Clash : goal.returns-in-Clash
returns-in-Clash c =
    let o = outcome c.args.book.now c.args.budget c.args.types.now c.args.edges.now c.run_plain-end.ensures.list in
    let z = plainly c.args.book.now c.args.budget c.args.types.now c.args.edges.now c.args.rows.now c.run_plain-end.ensures.list c.run_plain-end.ensures.room in
    run_rows c.args.book.now c.args.budget c.args.types.now c.args.edges.now c.args.rows.now o _ (z (Clash c.in-Clash.t c.in-Clash.e) (sym c.run_plain-end.ensures.ends ∙ ap end_of c.in-Clash.is)) c.run_plain-end.ensures.types c.run_plain-end.ensures.edges (rw c.number-numbers.ensures at c.run_listed.ensures)

pub returns-in-Finished : goal.returns-in-Finished
returns-in-Finished c =
    let o = outcome c.args.book.now c.args.budget c.args.types.now c.args.edges.now c.run_plain-end.ensures.list in
    let z = plainly c.args.book.now c.args.budget c.args.types.now c.args.edges.now c.args.rows.now c.run_plain-end.ensures.list c.run_plain-end.ensures.room in
    run_rows c.args.book.now c.args.budget c.args.types.now c.args.edges.now c.args.rows.now o _ (z (Finished c.in-Finished.t c.in-Finished.e c.in-Finished.p) (sym c.run_plain-end.ensures.ends ∙ ap end_of c.in-Finished.is)) c.run_plain-end.ensures.types c.run_plain-end.ensures.edges (rw c.number-numbers-in-Finished.ensures at c.run_listed-in-Finished.ensures)
