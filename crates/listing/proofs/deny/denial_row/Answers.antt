use Rattle.listing.proofs.Denials.{denial_put}
use Rattle.listing.proofs.deny.denial_row.Goals as goal

pub find_denier-found-requires : goal.find_denier-found-requires
find_denier-found-requires c = record { listed = c.requires.listed; labels_of = c.requires.labels_of; located = c.requires.located; t_value = c.requires.t_value }

pub returns : goal.returns
returns c m p = denial_put c.requires.listed c.requires.located c.find_denier-found.ensures p
