use Rattle.std.proofs.Common.{◌∙◌}
use Rattle.tx_select.proofs.Queries.{one-queried, one-found, one-none}
use Rattle.tx_select.proofs.matching.query_one.Goals as goal

pub returns-clause-first : goal.returns-clause-first
returns-clause-first c = one-queried _ c.root-root.ensures.known.once _ _ _ (c.as_slice.ensures ∙ c.compounds.ensures.compounds) _ c.first_matching.ensures

pub returns-clause-found : goal.returns-clause-found
returns-clause-found c = one-found _ c.root-root.ensures.known.once _ _ _ (c.as_slice.ensures ∙ c.compounds.ensures.compounds) _ c.first_matching.ensures

pub returns-clause-none : goal.returns-clause-none
returns-clause-none c = one-none _ c.root-root.ensures.known.once _ _ _ (c.as_slice.ensures ∙ c.compounds.ensures.compounds) _ c.first_matching.ensures
