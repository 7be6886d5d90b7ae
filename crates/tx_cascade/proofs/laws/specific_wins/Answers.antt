use Rattle.tx_cascade.proofs.Orders.{specific-wins, later-wins}
use Rattle.tx_cascade.proofs.laws.specific_wins.Goals as goal

pub returns-clause-specific : goal.returns-clause-specific
returns-clause-specific c = specific-wins

pub returns-clause-later : goal.returns-clause-later
returns-clause-later c = later-wins
