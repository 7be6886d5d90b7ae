use Rattle.tx_term.proofs.SameLemmas.{equal_grids}
use Rattle.tx_term.proofs.laws.equal_grids_send_nothing.Goals as goal

pub returns : goal.returns
returns c = record { law = equal_grids }
