-- `put_types` writes the lines of the front that `type_part` gives back.
use borrow.Author.Rules.{rules}
use native.Mathlib.Omega.{arith}
use Rattle.text.proofs.run.Printing.{front_short, front_lines}
use Rattle.text.specs.Text.{type_entries_lem}
use Rattle.verdict.specs.Conclude.{end_of}
use Rattle.text.proofs.run.put_types.Goals as goal

pub put_lines-requires : goal.put_lines-requires
put_lines-requires c = record { w_nonzero = search rules; list_in_bounds = omega (arith, front_short (type_entries_lem (end_of c.args.end)) c.args.types.now c.type_part.ensures) }

pub returns : goal.returns
returns c = record { written = (front_lines _ _ (type_entries_lem (end_of c.args.end)) c.args.types.now c.type_part.ensures (c.put_lines.ensures.written, c.put_lines.ensures.upper_bound)).0; upper_bound = (front_lines _ _ (type_entries_lem (end_of c.args.end)) c.args.types.now c.type_part.ensures (c.put_lines.ensures.written, c.put_lines.ensures.upper_bound)).1 }
