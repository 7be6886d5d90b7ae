use Rattle.tx_cell.proofs.LawLemmas.{clusters_alone}
use Rattle.tx_cell.proofs.laws.clusters_stand_alone.Goals as goal

pub returns : goal.returns
returns c = record { law = clusters_alone }
