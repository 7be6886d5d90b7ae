use Rattle.tx_widgets.proofs.ShownLemmas.{cursors-shown}
use Rattle.tx_widgets.proofs.laws.cursors_are_shown.Goals as goal

pub returns : goal.returns
returns c = record { law = cursors-shown }
