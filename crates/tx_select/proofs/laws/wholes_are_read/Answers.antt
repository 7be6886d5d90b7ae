use Rattle.std.proofs.Common.{[]}
use Rattle.tx_select.proofs.FoundWhole.{whole-found}
use Rattle.tx_select.proofs.AgainWhole.{whole-again}
use Rattle.tx_select.proofs.laws.wholes_are_read.Goals as goal

pub returns : goal.returns
returns c = λ ts compounds. (whole-found ts [] compounds, whole-again ts compounds)
