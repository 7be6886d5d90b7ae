use Rattle.std.proofs.Common.{length}
use Rattle.tx_term.proofs.machine.settings.+with_settings.Given as goal

abbrev pub decreases-with_settings : goal.decreases-with_settings
decreases-with_settings l = length l.numbers.now
