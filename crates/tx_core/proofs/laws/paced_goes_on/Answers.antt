use Rattle.tx_core.proofs.Runs.{paced-goes-on}
use Rattle.tx_core.proofs.laws.paced_goes_on.Goals as goal

pub returns : goal.returns
returns c = paced-goes-on
