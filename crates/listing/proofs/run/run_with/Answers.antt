use Rattle.derivation.proofs.Preparing.{enough}
use lib.ListN.{replicate}
use Rattle.listing.proofs.run.run_with.Goals as goal

pub returns : goal.returns
returns g c = record { list = replicate g.row.N 0; room = λ B d. enough g.row.N _ (c.requires.0 B d); ends = c.saturate.ensures.result_value; types = c.saturate.ensures.types_after; edges = c.saturate.ensures.edges_after }
