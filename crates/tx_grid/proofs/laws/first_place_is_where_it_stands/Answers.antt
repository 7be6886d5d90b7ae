use Rattle.tx_grid.proofs.FirstPlace.{first_place_iff}
use Rattle.tx_grid.proofs.laws.first_place_is_where_it_stands.Goals as goal

pub returns : goal.returns
returns c = first_place_iff
