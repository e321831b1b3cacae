use mathlib.Core.Path.{ap, sym, ◌∙◌}
use Rattle.judging.specs.declared.way.Way.{Way}
use Rattle.judging.specs.Way.{part_of}
use Rattle.judging.proofs.Reading.{every_inside, any_inside}
use Rattle.judging.proofs.way.part_of.Goals as goal

pub part_number-requires : goal.part_number-requires
part_number-requires c = every_inside c.args.book.now c.args.way c.args.i c.requires.parts_inside c.requires.i_bound c.in-Every.parts c.in-Every.is

pub part_number-requires-in-Any : goal.part_number-requires-in-Any
part_number-requires-in-Any c = any_inside c.args.book.now c.args.way c.args.i c.requires.parts_inside c.requires.i_bound c.in-Any.parts c.in-Any.is

pub returns-in-Every : goal.returns-in-Every
returns-in-Every c = c.part_number.ensures ∙ ap (λ (w : Way). part_of c.args.book.now w c.args.i) (sym c.in-Every.is)

pub returns-in-Any : goal.returns-in-Any
returns-in-Any c = c.part_number-in-Any.ensures ∙ ap (λ (w : Way). part_of c.args.book.now w c.args.i) (sym c.in-Any.is)
