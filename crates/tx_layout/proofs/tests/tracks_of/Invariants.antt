use Rattle.std.proofs.Common.{All}
use Rattle.tx_layout.specs.Style.{IsTrack}
use Rattle.tx_layout.proofs.tests.tracks_of.Given as goal

abbrev pub invariant-loop-track : goal.invariant-loop-track
invariant-loop-track l = All IsTrack l.tracks.items
