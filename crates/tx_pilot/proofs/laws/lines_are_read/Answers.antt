use Rattle.tx_pilot.proofs.LineLaws.{lines-read}
use Rattle.tx_pilot.proofs.laws.lines_are_read.Goals as goal

pub returns : goal.returns
returns c = lines-read
