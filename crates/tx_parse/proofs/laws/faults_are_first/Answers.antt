use Rattle.tx_parse.proofs.FirstFaults.{faults_first}
use Rattle.tx_parse.proofs.laws.faults_are_first.Goals as goal

pub returns : goal.returns
returns c = faults_first
