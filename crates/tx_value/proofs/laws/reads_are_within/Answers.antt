use Rattle.tx_value.proofs.ReadBounds.{reads_within}
use Rattle.tx_value.proofs.laws.reads_are_within.Goals as goal

pub returns : goal.returns
returns c = reads_within
