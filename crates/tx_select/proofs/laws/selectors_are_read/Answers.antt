use Rattle.tx_select.proofs.lemmas.SelectorLaws.{selectors-read}
use Rattle.tx_select.proofs.laws.selectors_are_read.Goals as goal

pub returns : goal.returns
returns c = selectors-read
