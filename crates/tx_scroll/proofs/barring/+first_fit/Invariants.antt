use Rattle.std.proofs.Common.{length}
use Rattle.tx_scroll.proofs.barring.+first_fit.Given as goal

abbrev pub decreases-first_fit : goal.decreases-first_fit
decreases-first_fit g l = length l.trials.now
