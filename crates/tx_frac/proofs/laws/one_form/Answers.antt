use Rattle.tx_frac.proofs.Multiples.{one_form}
use Rattle.tx_frac.proofs.laws.one_form.Goals as goal

pub returns : goal.returns
returns c = one_form
