use Rattle.tx_widgets.proofs.ReactionLemmas.{reactions-modest}
use Rattle.tx_widgets.proofs.laws.reactions_are_modest.Goals as goal

pub returns : goal.returns
returns c = record { law = reactions-modest }
