use Rattle.std.proofs.Common.{◌∙◌}
use Rattle.tx_select.proofs.Queries.{all-queried}
use Rattle.tx_select.proofs.matching.query.Goals as goal

pub returns : goal.returns
returns c = all-queried _ c.root-root.ensures.known.once _ _ _ (c.as_slice.ensures ∙ c.compounds.ensures.compounds) _ c.matching.ensures
