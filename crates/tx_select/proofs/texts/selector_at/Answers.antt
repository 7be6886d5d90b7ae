use Rattle.tx_select.proofs.Small.{read-small}
use Rattle.tx_select.proofs.texts.selector_at.Goals as goal

pub of-requires : goal.of-requires
of-requires c = read-small _ _ _ _ _ c.in_ok-compounds.ensures.gives c.requires
