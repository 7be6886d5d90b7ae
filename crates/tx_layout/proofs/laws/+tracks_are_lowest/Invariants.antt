use Rattle.std.proofs.Common.{length}
use Rattle.tx_layout.proofs.laws.+tracks_are_lowest.Given as goal

abbrev pub decreases-tracks_are_lowest : goal.decreases-tracks_are_lowest
decreases-tracks_are_lowest l = length l.tracks.now
