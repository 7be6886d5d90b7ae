use Rattle.tx_app.proofs.CauseLemmas.{sheets_are_accepted}
use Rattle.tx_app.proofs.laws.sheets_are_accepted.Goals as goal

pub returns : goal.returns
returns c = sheets_are_accepted
