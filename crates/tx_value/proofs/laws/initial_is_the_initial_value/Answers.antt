use Rattle.tx_value.proofs.InitialReads.{initial_reads}
use Rattle.tx_value.proofs.laws.initial_is_the_initial_value.Goals as goal

pub returns : goal.returns
returns c = initial_reads
