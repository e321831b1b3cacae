use mathlib.Core.Path.{sym, ◌∙◌}
use Rattle.derivation.proofs.Leaves.{deep_and, deep_own}
use Rattle.tables.proofs.Open.{open_limits}
use Rattle.derivation.proofs.deep.deep_row.Goals as goal

pub put_own-requires : goal.put_own-requires
put_own-requires c = (c.requires.slotted.0, c.requires.slotted.1, c.requires.leaves.room, (open_limits c.args.book.opened).concepts_top, c.requires.slotted.2, c.requires.slotted.3)

pub returns-then-is_and : goal.returns-then-is_and
returns-then-is_and c = (deep_and c.args.book.opened (open_limits c.args.book.opened).concepts_top c.requires.leaves c.requires.slotted.0 c.requires.slotted.2 ((c.requires.leaves.leaf c.args.d c.requires.slotted.2).and ∙ (sym c.is_and.ensures ∙ c.if-is_and.true)) c.requires.deep c.unite_parts.ensures, c.unite_parts.ensures.len)

pub returns-else-is_and : goal.returns-else-is_and
returns-else-is_and c = (deep_own c.args.book.opened (open_limits c.args.book.opened).concepts_top c.requires.leaves c.requires.slotted.0 c.requires.slotted.2 ((c.requires.leaves.leaf c.args.d c.requires.slotted.2).and ∙ (sym c.is_and.ensures ∙ c.if-is_and.false)) c.requires.deep c.put_own.ensures, c.put_own.ensures.len)
