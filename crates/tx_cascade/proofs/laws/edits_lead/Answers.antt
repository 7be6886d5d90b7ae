use Rattle.tx_cascade.proofs.EditsLead.{none-leads, each-leads}
use Rattle.tx_cascade.proofs.LeadsOn.{lead-on}
use Rattle.tx_cascade.proofs.laws.edits_lead.Goals as goal

pub returns-clause-none : goal.returns-clause-none
returns-clause-none c = none-leads

pub returns-clause-each : goal.returns-clause-each
returns-clause-each c = each-leads

pub returns-clause-on : goal.returns-clause-on
returns-clause-on c = lead-on
