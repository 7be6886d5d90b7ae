use Rattle.tx_core.proofs.Runs.{events-follow}
use Rattle.tx_core.proofs.laws.events_follow.Goals as goal

pub returns : goal.returns
returns c = events-follow
