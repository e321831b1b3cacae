use native.Mathlib.Omega.{arith}
use mathlib.Core.Path.{ap, ◌∙◌}
use lib.ListN.{length}
use Prim.Native.Nat.{◌-◌}
use Rattle.book.specs.Bytes.{two_of}
use Rattle.writer.specs.Lay.{over}
use Rattle.writer.proofs.Over.{header_kept, header_recounted}
use Rattle.writer.proofs.lay.lay_header.Goals as goal

pub returns-then-count-eq0 : goal.returns-then-count-eq0
returns-then-count-eq0 c = c.put.ensures ∙ header_kept c.args.header.now c.args.out.now c.args.count c.if-count-eq0.true

pub returns : goal.returns
returns c =
    let two = c.requires.1 (omega arith) in
    c.put-3.ensures ∙ (ap (λ o. over o (length c.args.header.now - 2) (two_of c.args.count)) c.put-2.ensures ∙ header_recounted c.args.header.now c.args.out.now c.args.count c.if-count-eq0.false two c.requires.0)
