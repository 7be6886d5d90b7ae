use Rattle.tx_term.proofs.LawLemmas.{whole_updates_lead}
use Rattle.tx_term.proofs.laws.whole_updates_lead.Goals as goal

pub returns : goal.returns
returns c = record { law = whole_updates_lead }
