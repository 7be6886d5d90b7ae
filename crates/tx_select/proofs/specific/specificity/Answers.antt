use Rattle.std.proofs.Common.{sym, subst, ◌∙◌}
use Rattle.tx_select.specs.SelectorValue.{IsSmall}
use Rattle.tx_select.proofs.Small.{ids-few, classes-few}
use Rattle.tx_select.proofs.specific.specificity.Goals as goal

pub ids-requires : goal.ids-requires
ids-requires c = ids-few _ (subst IsSmall (sym (c.as_slice-compounds.ensures ∙ c.compounds.ensures.compounds)) c.compounds.ensures.small)

pub classes-requires : goal.classes-requires
classes-requires c = classes-few _ (subst IsSmall (sym (c.as_slice-compounds.ensures ∙ c.compounds.ensures.compounds)) c.compounds.ensures.small)
