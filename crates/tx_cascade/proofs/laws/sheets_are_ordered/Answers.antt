use Rattle.tx_cascade.proofs.SheetOrders.{sheet-reaches, sheets-are-ordered}
use Rattle.tx_cascade.proofs.laws.sheets_are_ordered.Goals as goal

pub returns-clause-reach : goal.returns-clause-reach
returns-clause-reach c = sheet-reaches

pub returns-clause-order : goal.returns-clause-order
returns-clause-order c = sheets-are-ordered
