use Rattle.tx_pilot.proofs.ScriptLaws.{scripts-read}
use Rattle.tx_pilot.proofs.laws.scripts_are_read.Goals as goal

pub returns : goal.returns
returns c = scripts-read
