use Rattle.tx_layout.proofs.Shown.{celled_have_regions}
use Rattle.tx_layout.proofs.laws.celled_have_regions.Goals as goal

pub returns : goal.returns
returns c = celled_have_regions
