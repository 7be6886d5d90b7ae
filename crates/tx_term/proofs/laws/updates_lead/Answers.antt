use Rattle.tx_term.proofs.LawLemmas.{updates_lead}
use Rattle.tx_term.proofs.laws.updates_lead.Goals as goal

pub returns : goal.returns
returns c = record { law = updates_lead }
