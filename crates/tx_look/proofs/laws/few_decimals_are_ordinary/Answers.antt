use Rattle.tx_look.proofs.FewDecimals.{few_decimals_are_ordinary}
use Rattle.tx_look.proofs.laws.few_decimals_are_ordinary.Goals as goal

pub returns : goal.returns
returns c = few_decimals_are_ordinary
