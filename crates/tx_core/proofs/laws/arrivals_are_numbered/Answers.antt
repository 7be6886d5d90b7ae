use Rattle.tx_core.proofs.Arrivals.{arrivals-are-numbered}
use Rattle.tx_core.proofs.laws.arrivals_are_numbered.Goals as goal

pub returns : goal.returns
returns c = arrivals-are-numbered
