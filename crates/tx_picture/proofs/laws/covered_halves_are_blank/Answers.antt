use Rattle.tx_picture.proofs.LawLemmas.{covered-blank}
use Rattle.tx_picture.proofs.laws.covered_halves_are_blank.Goals as goal

pub returns : goal.returns
returns c = covered-blank
