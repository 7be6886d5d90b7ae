use Rattle.tx_cascade.proofs.NothingNamed.{nothing-named}
use Rattle.tx_cascade.proofs.TreeEdits.{tree-edits-lead}
use Rattle.tx_cascade.proofs.laws.tree_edits_lead.Goals as goal

pub returns-clause-each : goal.returns-clause-each
returns-clause-each c = tree-edits-lead

pub returns-clause-none : goal.returns-clause-none
returns-clause-none c = nothing-named
