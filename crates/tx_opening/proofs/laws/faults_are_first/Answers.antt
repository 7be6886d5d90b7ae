use Rattle.tx_opening.proofs.FirstFaults.{faults-first}
use Rattle.tx_opening.proofs.laws.faults_are_first.Goals as goal

pub returns : goal.returns
returns c = faults-first c.one_fault.ensures
