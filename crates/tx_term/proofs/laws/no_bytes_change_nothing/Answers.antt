use Rattle.tx_term.proofs.FeedLemmas.{fed-nothing}
use Rattle.tx_term.proofs.laws.no_bytes_change_nothing.Goals as goal

pub returns : goal.returns
returns c = record { law = fed-nothing }
