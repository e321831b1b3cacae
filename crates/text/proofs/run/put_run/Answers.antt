-- `put_run` writes its four parts.
use native.Mathlib.Omega.{arith}
use Rattle.text.proofs.run.Printing.{run_printed, run_rest}
use mathlib.Core.Path.{sym}
use lib.Seq.{length-take-le}
use Prim.Native.Nat.{◌≤◌}
use lib.ListN.{length}
use Rattle.text.proofs.run.put_run.Goals as goal

pub returns : goal.returns
returns c =
    let h : c.put_pairs.result ≤ length c.put_pairs.new.out =
    omega (
      arith,
      c.put_pairs.ensures.upper_bound,
      c.put_edges-third.ensures.upper_bound,
      c.put_types-second.ensures.upper_bound,
      c.put_end-first.ensures.upper_bound,
      c.put_pairs.ensures.written.len,
      c.put_edges-third.ensures.written.len,
      c.put_types-second.ensures.written.len,
      c.put_end-first.ensures.written.len,
    ) in record { upper_bound = (h, sym (length-take-le _ _ h)); out_after = run_printed c.args.end c.args.types.now c.args.edges.now c.args.pairs.now c.put_end-first.ensures.written c.put_types-second.ensures.written c.put_edges-third.ensures.written c.put_pairs.ensures.written; out_unchanged = run_rest c.put_end-first.ensures.written c.put_types-second.ensures.written c.put_edges-third.ensures.written c.put_pairs.ensures.written }
