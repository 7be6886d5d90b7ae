use Rattle.tx_compose.proofs.EditLaws.{edits_lead_on, resized_leads, scrolled_leads, tree_edits_lead}
use Rattle.tx_compose.proofs.laws.edits_lead.Goals as goal

pub returns-clause-tree : goal.returns-clause-tree
returns-clause-tree c = tree_edits_lead

pub returns-clause-scrolled : goal.returns-clause-scrolled
returns-clause-scrolled c = scrolled_leads c.edits_lead.ensures.none

pub returns-clause-resized : goal.returns-clause-resized
returns-clause-resized c = resized_leads c.edits_lead.ensures.none

pub returns-clause-on : goal.returns-clause-on
returns-clause-on c = edits_lead_on c.edits_lead.ensures.on
