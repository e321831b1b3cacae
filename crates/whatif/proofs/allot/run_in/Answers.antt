use Prim.Native.Nat.{ℕ, ◌+◌, ◌*◌, ◌≤◌}
use mathlib.Core.Path.{ap, sym, ◌∙◌, subst}
use Rattle.std.specs.Prelude.{Some}
use mathlib.Core.List.{[], ◌∷◌, ◌++◌}
use lib.ListN.{length-replicate}
use Rattle.book.specs.Read.{as_read}
use Rattle.rules.specs.Spoken.{anyone}
use Rattle.tables.specs.Open.{book_with}
use Rattle.said.specs.Layout.{layout_of, total_rows}
use Rattle.saturation.specs.Run.{heard, heard_book}
use Rattle.saturation.proofs.run.Closing.{heard_inside}
use Rattle.saturation.proofs.allot.Words.{fresh_of}
use Rattle.whatif.proofs.Answering.{copy_inside}
use Rattle.whatif.proofs.Prospects.{answer_alone, answer_refused, go_read, go_few, go_admitted, go_ongoing, go_filled, answer_went, answer_either}
use Rattle.whatif.proofs.allot.run_in.Goals as goal

pub draw-drawing-requires-clause-fresh : goal.draw-drawing-requires-clause-fresh
draw-drawing-requires-clause-fresh g c = fresh_of c.requires.enough.0

pub read_off-end-requires-clause-inside : goal.read_off-end-requires-clause-inside
read_off-end-requires-clause-inside g c = (heard_book anyone c.args.book.now, heard_inside anyone c.requires.fact, c.requires.fact.counts, c.draw-drawing.ensures.drawn)

pub begin-requires : goal.begin-requires
begin-requires g c = c.requires.admitted.low

pub draw_further-again-requires : goal.draw_further-again-requires
draw_further-again-requires g c =
    let ran = c.read_off-end.ensures.outcome (heard_book anyone c.args.book.now) (heard_inside anyone c.requires.fact) c.requires.fact.counts c.draw-drawing.ensures.drawn in
    let read = go_read c.requires.fact (as_read c.args.job.read) c.args.lists.now.pairs.now c.requires.admitted c.args.more.now.types.now c.args.more.now.edges.now c.args.more.now.pairs.now c.read_off-end.result _ _ _ ran c.begin.ensures c.in-Ok.statement (c.in-Some.is ∙ ap Some c.in-Ok.is) in
    let in-counts = c.requires.within c.in-Ok.statement read.0 read.1 in
    let rows = subst (λ (n : ℕ). total_rows (layout_of c.args.job.counts) * 8 ≤ n) (sym (c.draw-drawing.auto.says ∙ length-replicate {0} {A = ℕ} g.row.S 0)) c.requires.enough.0.says in
    let room = subst (λ (n : ℕ). c.args.job.counts.statements * 4 + 4 ≤ n) (sym (c.draw-drawing.auto.chains ∙ length-replicate {0} {A = ℕ} g.row.C 0)) c.requires.enough.1 in
    let on = go_ongoing c.requires.fact (as_read c.args.job.read) c.args.lists.now.pairs.now c.requires.admitted c.args.more.now.types.now c.args.more.now.edges.now c.args.more.now.pairs.now c.read_off-end.result _ _ _ ran c.begin.ensures c.in-Ok.statement (c.in-Some.is ∙ ap Some c.in-Ok.is) c.requires.from_value c.draw-drawing.ensures.drawn c.draw-drawing.ensures.worked c.draw-drawing.ensures.from_value_2 rows room in record { fact = c.requires.fact; within = in-counts.0; goes = (heard anyone c.args.book.now, on) }

pub read_on-last-requires : goal.read_on-last-requires
read_on-last-requires g c =
    let ran = c.read_off-end.ensures.outcome (heard_book anyone c.args.book.now) (heard_inside anyone c.requires.fact) c.requires.fact.counts c.draw-drawing.ensures.drawn in
    let read = go_read c.requires.fact (as_read c.args.job.read) c.args.lists.now.pairs.now c.requires.admitted c.args.more.now.types.now c.args.more.now.edges.now c.args.more.now.pairs.now c.read_off-end.result _ _ _ ran c.begin.ensures c.in-Ok.statement (c.in-Some.is ∙ ap Some c.in-Ok.is) in
    let in-counts = c.requires.within c.in-Ok.statement read.0 read.1 in
    let rows = subst (λ (n : ℕ). total_rows (layout_of c.args.job.counts) * 8 ≤ n) (sym (c.draw-drawing.auto.says ∙ length-replicate {0} {A = ℕ} g.row.S 0)) c.requires.enough.0.says in
    let room = subst (λ (n : ℕ). c.args.job.counts.statements * 4 + 4 ≤ n) (sym (c.draw-drawing.auto.chains ∙ length-replicate {0} {A = ℕ} g.row.C 0)) c.requires.enough.1 in
    let on = go_ongoing c.requires.fact (as_read c.args.job.read) c.args.lists.now.pairs.now c.requires.admitted c.args.more.now.types.now c.args.more.now.edges.now c.args.more.now.pairs.now c.read_off-end.result _ _ _ ran c.begin.ensures c.in-Ok.statement (c.in-Some.is ∙ ap Some c.in-Ok.is) c.requires.from_value c.draw-drawing.ensures.drawn c.draw-drawing.ensures.worked c.draw-drawing.ensures.from_value_2 rows room in
    let inside = in-counts.1 (go_few c.requires.fact (as_read c.args.job.read) c.args.lists.now.pairs.now c.requires.admitted c.args.more.now.types.now c.args.more.now.edges.now c.args.more.now.pairs.now c.read_off-end.result _ _ _ ran c.begin.ensures c.in-Ok.statement (c.in-Some.is ∙ ap Some c.in-Ok.is)) in
    let now = c.draw_further-again.ensures.drawn (heard anyone c.args.book.now) on in
    record { inside = (book_with c.args.book.now (heard anyone c.args.book.now ++ (c.in-Ok.statement ∷ [])), copy_inside c.requires.fact c.in-Ok.statement in-counts.0 inside, c.requires.fact.counts, now); counts_in_bounds = (subst (λ (n : ℕ). total_rows (layout_of c.args.job.counts) * 8 ≤ n) (sym (c.draw_further-again.auto.says ∙ (c.draw-drawing.auto.says ∙ length-replicate {0} {A = ℕ} g.row.S 0))) c.requires.enough.0.says, subst (λ (n : ℕ). c.args.job.counts.concepts ≤ n) (sym (c.draw-drawing.auto.leaves ∙ length-replicate {0} {A = ℕ} g.row.K 0)) c.requires.enough.0.leaves); admitted = go_admitted c.requires.fact (as_read c.args.job.read) c.args.lists.now.pairs.now c.requires.admitted c.args.more.now.types.now c.args.more.now.edges.now c.args.more.now.pairs.now c.read_off-end.result _ _ _ ran c.begin.ensures c.in-Ok.statement (c.in-Some.is ∙ ap Some c.in-Ok.is) }

pub lessen-less-requires : goal.lessen-less-requires
lessen-less-requires g c =
    let ran = c.read_off-end.ensures.outcome (heard_book anyone c.args.book.now) (heard_inside anyone c.requires.fact) c.requires.fact.counts c.draw-drawing.ensures.drawn in
    let read = go_read c.requires.fact (as_read c.args.job.read) c.args.lists.now.pairs.now c.requires.admitted c.args.more.now.types.now c.args.more.now.edges.now c.args.more.now.pairs.now c.read_off-end.result _ _ _ ran c.begin.ensures c.in-Ok.statement (c.in-Some.is ∙ ap Some c.in-Ok.is) in
    let in-counts = c.requires.within c.in-Ok.statement read.0 read.1 in
    let rows = subst (λ (n : ℕ). total_rows (layout_of c.args.job.counts) * 8 ≤ n) (sym (c.draw-drawing.auto.says ∙ length-replicate {0} {A = ℕ} g.row.S 0)) c.requires.enough.0.says in
    let room = subst (λ (n : ℕ). c.args.job.counts.statements * 4 + 4 ≤ n) (sym (c.draw-drawing.auto.chains ∙ length-replicate {0} {A = ℕ} g.row.C 0)) c.requires.enough.1 in
    let on = go_ongoing c.requires.fact (as_read c.args.job.read) c.args.lists.now.pairs.now c.requires.admitted c.args.more.now.types.now c.args.more.now.edges.now c.args.more.now.pairs.now c.read_off-end.result _ _ _ ran c.begin.ensures c.in-Ok.statement (c.in-Some.is ∙ ap Some c.in-Ok.is) c.requires.from_value c.draw-drawing.ensures.drawn c.draw-drawing.ensures.worked c.draw-drawing.ensures.from_value_2 rows room in
    let inside = in-counts.1 (go_few c.requires.fact (as_read c.args.job.read) c.args.lists.now.pairs.now c.requires.admitted c.args.more.now.types.now c.args.more.now.edges.now c.args.more.now.pairs.now c.read_off-end.result _ _ _ ran c.begin.ensures c.in-Ok.statement (c.in-Some.is ∙ ap Some c.in-Ok.is)) in
    let now = c.draw_further-again.ensures.drawn (heard anyone c.args.book.now) on in
    λ m. go_filled c.requires.fact (as_read c.args.job.read) c.args.lists.now.pairs.now c.requires.admitted c.args.more.now.types.now c.args.more.now.edges.now c.args.more.now.pairs.now c.read_off-end.result _ _ _ ran c.begin.ensures c.in-Ok.statement (c.in-Some.is ∙ ap Some c.in-Ok.is) in-counts.0 inside c.read_on-last.result _ _ _ (c.read_on-last.ensures.pairs_after m (book_with c.args.book.now (heard anyone c.args.book.now ++ (c.in-Ok.statement ∷ []))) (copy_inside c.requires.fact c.in-Ok.statement in-counts.0 inside) c.requires.fact.counts now)

pub returns-in_default-clause-effect : goal.returns-in_default-clause-effect
returns-in_default-clause-effect g c =
    let ran = c.read_off-end.ensures.outcome (heard_book anyone c.args.book.now) (heard_inside anyone c.requires.fact) c.requires.fact.counts c.draw-drawing.ensures.drawn in
    answer_alone c.requires.fact (as_read c.args.job.read) c.args.lists.now.pairs.now c.requires.admitted c.args.more.now.types.now c.args.more.now.edges.now c.args.more.now.pairs.now c.read_off-end.result _ _ _ ran c.begin.ensures c.in_default.is

pub returns-in-Err-clause-effect : goal.returns-in-Err-clause-effect
returns-in-Err-clause-effect g c =
    let ran = c.read_off-end.ensures.outcome (heard_book anyone c.args.book.now) (heard_inside anyone c.requires.fact) c.requires.fact.counts c.draw-drawing.ensures.drawn in
    (answer_refused c.requires.fact (as_read c.args.job.read) c.args.lists.now.pairs.now c.requires.admitted c.args.more.now.types.now c.args.more.now.edges.now c.args.more.now.pairs.now c.read_off-end.result _ _ _ ran c.begin.ensures c.in-Err.refusal (c.in-Some.is ∙ ap Some c.in-Err.is))

pub returns-in-Ok-clause-effect : goal.returns-in-Ok-clause-effect
returns-in-Ok-clause-effect g c =
    let ran = c.read_off-end.ensures.outcome (heard_book anyone c.args.book.now) (heard_inside anyone c.requires.fact) c.requires.fact.counts c.draw-drawing.ensures.drawn in
    let read = go_read c.requires.fact (as_read c.args.job.read) c.args.lists.now.pairs.now c.requires.admitted c.args.more.now.types.now c.args.more.now.edges.now c.args.more.now.pairs.now c.read_off-end.result _ _ _ ran c.begin.ensures c.in-Ok.statement (c.in-Some.is ∙ ap Some c.in-Ok.is) in
    let in-counts = c.requires.within c.in-Ok.statement read.0 read.1 in
    let rows = subst (λ (n : ℕ). total_rows (layout_of c.args.job.counts) * 8 ≤ n) (sym (c.draw-drawing.auto.says ∙ length-replicate {0} {A = ℕ} g.row.S 0)) c.requires.enough.0.says in
    let room = subst (λ (n : ℕ). c.args.job.counts.statements * 4 + 4 ≤ n) (sym (c.draw-drawing.auto.chains ∙ length-replicate {0} {A = ℕ} g.row.C 0)) c.requires.enough.1 in
    let on = go_ongoing c.requires.fact (as_read c.args.job.read) c.args.lists.now.pairs.now c.requires.admitted c.args.more.now.types.now c.args.more.now.edges.now c.args.more.now.pairs.now c.read_off-end.result _ _ _ ran c.begin.ensures c.in-Ok.statement (c.in-Some.is ∙ ap Some c.in-Ok.is) c.requires.from_value c.draw-drawing.ensures.drawn c.draw-drawing.ensures.worked c.draw-drawing.ensures.from_value_2 rows room in
    let inside = in-counts.1 (go_few c.requires.fact (as_read c.args.job.read) c.args.lists.now.pairs.now c.requires.admitted c.args.more.now.types.now c.args.more.now.edges.now c.args.more.now.pairs.now c.read_off-end.result _ _ _ ran c.begin.ensures c.in-Ok.statement (c.in-Some.is ∙ ap Some c.in-Ok.is)) in
    let now = c.draw_further-again.ensures.drawn (heard anyone c.args.book.now) on in
    answer_either c.requires.fact (as_read c.args.job.read) c.args.lists.now.pairs.now c.requires.admitted c.args.more.now.types.now c.args.more.now.edges.now c.args.more.now.pairs.now c.read_off-end.result _ _ _ ran c.begin.ensures c.in-Ok.statement (c.in-Some.is ∙ ap Some c.in-Ok.is) in-counts.0 inside on now c.draw_further-again.ensures.still c.lessen-less.result _ _ _
    (λ m. answer_went c.requires.fact (as_read c.args.job.read) c.args.lists.now.pairs.now c.requires.admitted c.args.more.now.types.now c.args.more.now.edges.now c.args.more.now.pairs.now c.read_off-end.result _ _ _ ran c.begin.ensures c.in-Ok.statement (c.in-Some.is ∙ ap Some c.in-Ok.is) in-counts.0 inside c.read_on-last.result _ _ _ (c.read_on-last.ensures.pairs_after m (book_with c.args.book.now (heard anyone c.args.book.now ++ (c.in-Ok.statement ∷ []))) (copy_inside c.requires.fact c.in-Ok.statement in-counts.0 inside) c.requires.fact.counts now) c.lessen-less.result _ _ _ (c.lessen-less.ensures.more_pairs_after_2 m) (c.lessen-less.ensures.more_pairs_after_3 m))
    (λ m. c.lessen-less.ensures.more_pairs_after m ∙ c.read_on-last.ensures.pairs_after_2 m)
