use Rattle.tx_layout.proofs.Agreeing.{meanings_decide}
use Rattle.tx_layout.proofs.laws.meanings_decide.Goals as goal

pub returns : goal.returns
returns c = meanings_decide
