use Rattle.std.proofs.Common.{List, ◌∙◌, ap}
use Rattle.tx_value.specs.Initial.{initial}
use Rattle.tx_value.specs.Style.{style_value}
use Rattle.tx_value.specs.declared.value.Value.{Value}
use Rattle.tx_value.proofs.Styles.{values_make_styles}
use Rattle.tx_value.proofs.style.Style.initial.Goals as goal

pub returns-clause-each : goal.returns-clause-each
returns-clause-each c property = ap (λ (s : List Value). style_value s property) c.in_ok-values.ensures ∙ (values_make_styles initial).1 property
