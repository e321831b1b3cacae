use mathlib.Core.Path.{ap, sym}
use Rattle.judging.specs.Way.{way_of}
use Rattle.judging.proofs.way.way_of.Goals as goal

pub returns-in-And : goal.returns-in-And
returns-in-And c = sym (ap way_of c.in-And.is)

pub returns-in-Or : goal.returns-in-Or
returns-in-Or c = sym (ap way_of c.in-Or.is)

pub returns-in-Some : goal.returns-in-Some
returns-in-Some c = sym (ap way_of c.in-Some.is)
