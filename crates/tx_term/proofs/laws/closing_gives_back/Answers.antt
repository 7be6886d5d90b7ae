use Rattle.tx_term.proofs.LawLemmas.{closing_gives_back}
use Rattle.tx_term.proofs.laws.closing_gives_back.Goals as goal

pub returns : goal.returns
returns c = record { law = closing_gives_back }
