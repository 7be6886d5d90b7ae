use Rattle.tx_select.proofs.lemmas.SelectorLaws.{selectors-local}
use Rattle.tx_select.proofs.laws.selectors_are_local.Goals as goal

pub returns : goal.returns
returns c = selectors-local
