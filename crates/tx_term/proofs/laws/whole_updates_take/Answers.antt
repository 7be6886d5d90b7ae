use Rattle.tx_term.proofs.LawLemmas.{whole_updates_take}
use Rattle.tx_term.proofs.laws.whole_updates_take.Goals as goal

pub returns : goal.returns
returns c = record { law = whole_updates_take }
