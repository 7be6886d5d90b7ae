use Rattle.tx_value.proofs.Styles.{styles_are_their_values, values_make_styles}
use Rattle.tx_value.proofs.laws.styles_are_values.Goals as goal

pub returns-clause-alone : goal.returns-clause-alone
returns-clause-alone c = styles_are_their_values

pub returns-clause-any : goal.returns-clause-any
returns-clause-any c = values_make_styles
