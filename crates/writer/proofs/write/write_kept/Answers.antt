use native.Mathlib.Omega.{arith}
use lib.ListN.{length}
use Rattle.book.specs.Bytes.{Bytes}
use Rattle.writer.proofs.Spans.{sizes_length}
use Rattle.writer.proofs.Parts.{located_many, located_limits, parts_end, parts_fit, writes_short, writes_fits}
use Rattle.writer.proofs.write.write_kept.Goals as goal

pub keep_all-kept-requires-clause-start_in_bounds : goal.keep_all-kept-requires-clause-start_in_bounds
keep_all-kept-requires-clause-start_in_bounds c =
    let bytes : Bytes c.args.book.now = (λ i m. omega (arith, c.type_inv.book i)) in
    let many = located_many c.args.book.now bytes c.args.counts c.args.front c.args.start c.requires.located in
    let lim = located_limits c.requires.located in
    (omega (arith, many, c.requires.room.children), omega (arith, many, sizes_length c.args.spans.now, c.requires.room.sizes), omega (arith, many, lim.statements_top), lim)

pub end_of-end-requires : goal.end_of-end-requires
end_of-end-requires c =
    let bytes : Bytes c.args.book.now = (λ i m. omega (arith, c.type_inv.book i)) in
    omega (arith, parts_end c.args.book.now bytes c.args.counts c.args.front c.args.start c.requires.located (length c.keep_all-kept.result.now) _ _ c.keep_all-kept.ensures.records c.keep_all-kept.ensures.stand)

pub returns-then-out-end : goal.returns-then-out-end
returns-then-out-end c =
    let bytes : Bytes c.args.book.now = (λ i m. omega (arith, c.type_inv.book i)) in
    writes_short c.args.book.now bytes c.args.counts c.args.front c.args.start c.requires.located (length c.keep_all-kept.result.now) _ _ c.keep_all-kept.ensures.records c.keep_all-kept.ensures.stand c.args.out.now c.end_of-end.result c.end_of-end.ensures c.if-out-end.true

pub lay_out-requires-clause-front_le_start : goal.lay_out-requires-clause-front_le_start
lay_out-requires-clause-front_le_start c =
    let bytes : Bytes c.args.book.now = (λ i m. omega (arith, c.type_inv.book i)) in
    parts_fit c.args.book.now bytes c.args.counts c.args.front c.args.start c.requires.located (length c.keep_all-kept.result.now) _ _ c.keep_all-kept.ensures.records c.keep_all-kept.ensures.stand _ c.end_of-end.result c.end_of-end.ensures c.if-out-end.false

pub returns : goal.returns
returns c =
    let bytes : Bytes c.args.book.now = (λ i m. omega (arith, c.type_inv.book i)) in
    writes_fits c.args.book.now bytes c.args.counts c.args.front c.args.start c.requires.located (length c.keep_all-kept.result.now) _ _ c.keep_all-kept.ensures.records c.keep_all-kept.ensures.stand c.args.out.now c.end_of-end.result c.end_of-end.ensures c.if-out-end.false _ c.lay_out.ensures
