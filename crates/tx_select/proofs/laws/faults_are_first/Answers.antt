use Rattle.tx_select.proofs.Local.{faults-first}
use Rattle.tx_select.proofs.laws.faults_are_first.Goals as goal

pub returns : goal.returns
returns c = faults-first
