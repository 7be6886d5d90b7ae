use Rattle.tx_select.proofs.WholeTexts.{clause-found, clause-only, clause-fault}
use Rattle.tx_select.proofs.texts.read_selector.Goals as goal

pub returns-clause-found : goal.returns-clause-found
returns-clause-found c = clause-found c.args.text.now c.read.result c.read.ensures.exact

pub returns-clause-only : goal.returns-clause-only
returns-clause-only c = clause-only c.args.text.now c.read.result c.read.ensures.exact

pub returns-clause-fault : goal.returns-clause-fault
returns-clause-fault c = clause-fault c.args.text.now c.read.result c.read.ensures.exact
