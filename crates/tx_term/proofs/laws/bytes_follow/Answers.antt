use Rattle.tx_term.proofs.FeedLemmas.{bytes_follow}
use Rattle.tx_term.proofs.laws.bytes_follow.Goals as goal

pub returns : goal.returns
returns c = record { law = bytes_follow }
