use Rattle.tx_cascade.proofs.ValuesBelow.{values-are, some-wins}
use Rattle.tx_cascade.proofs.laws.values_are_those.Goals as goal

pub returns-clause-values : goal.returns-clause-values
returns-clause-values c = values-are c.styles_are_values.ensures.any

pub returns-clause-some : goal.returns-clause-some
returns-clause-some c = some-wins
