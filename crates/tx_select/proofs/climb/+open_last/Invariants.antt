use Rattle.std.proofs.Common.{length}
use Rattle.tx_select.proofs.climb.+open_last.Given as goal

abbrev pub decreases-open_last : goal.decreases-open_last
decreases-open_last l = length l.compounds.now
