use Rattle.std.proofs.Common.{◌∙◌}
use Rattle.tx_select.proofs.Queries.{one-sound, one-whole}
use Rattle.tx_select.proofs.matching.matches.Goals as goal

pub returns-clause-sound : goal.returns-clause-sound
returns-clause-sound g c = one-sound _ c.root-root.ensures.known.once _ _ _ (c.as_slice.ensures ∙ c.compounds.ensures.compounds) _ _ c.is_match.ensures

pub returns-clause-whole : goal.returns-clause-whole
returns-clause-whole g c = one-whole _ c.root-root.ensures.known.once _ _ _ (c.as_slice.ensures ∙ c.compounds.ensures.compounds) _ _ c.is_match.ensures
