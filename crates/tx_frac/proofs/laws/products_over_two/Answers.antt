use Rattle.tx_frac.proofs.Multiples.{products_over_two}
use Rattle.tx_frac.proofs.laws.products_over_two.Goals as goal

pub returns : goal.returns
returns c = products_over_two
