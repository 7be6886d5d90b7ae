use Rattle.tx_sizes.proofs.Forests.{keeps_rows}
use Rattle.tx_sizes.proofs.laws.forests_keep_their_rows.Goals as goal

pub returns : goal.returns
returns c = keeps_rows
