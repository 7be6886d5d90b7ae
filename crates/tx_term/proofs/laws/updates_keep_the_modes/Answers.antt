use Rattle.tx_term.proofs.LawLemmas.{updates_keep_modes}
use Rattle.tx_term.proofs.laws.updates_keep_the_modes.Goals as goal

pub returns : goal.returns
returns c = record { law = updates_keep_modes }
