use Rattle.tx_widgets.proofs.ShownLemmas.{chosen-shown}
use Rattle.tx_widgets.proofs.laws.chosen_are_shown.Goals as goal

pub returns : goal.returns
returns c = record { law = chosen-shown }
