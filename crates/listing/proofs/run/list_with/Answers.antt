use Rattle.listing.proofs.Words.{fresh_of}
use Rattle.listing.proofs.run.list_with.Goals as goal

pub list_in-requires : goal.list_in-requires
list_in-requires g c = record { from_value = c.requires.from_value; ran = c.requires.ran; fresh = fresh_of c.requires.enough }
