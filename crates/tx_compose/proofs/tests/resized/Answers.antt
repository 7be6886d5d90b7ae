use Rattle.std.proofs.Common.{refl, rules}
use Rattle.tx_compose.proofs.Unscrolled.{built_in, goes_on}
use Rattle.tx_compose.proofs.tests.resized.Goals as goal

pub refresh-requires-clause-built_in : goal.refresh-requires-clause-built_in
refresh-requires-clause-built_in c = built_in c.args.tree.now.rows (search rules)

pub refresh-requires-clause-edits : goal.refresh-requires-clause-edits
refresh-requires-clause-edits c = goes_on _ _ _ _ c.requires refl refl (c.edits_lead.ensures.none _ _) (search rules)
