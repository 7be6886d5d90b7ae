use Rattle.std.proofs.Common.{pos}
use Rattle.tx_layout.proofs.Following.{over_tracks}
use Rattle.tx_layout.proofs.tracks.side_over.Goals as goal

pub side_between-requires-clause-low : goal.side_between-requires-clause-low
side_between-requires-clause-low c = (over_tracks c.args.spans.now c.args.first c.args.count (record { from = pos 0; to = pos 0 }) c.requires.tracks c.requires.some c.requires.few c.requires.within).low

pub side_between-requires-clause-far : goal.side_between-requires-clause-far
side_between-requires-clause-far c = (over_tracks c.args.spans.now c.args.first c.args.count (record { from = pos 0; to = pos 0 }) c.requires.tracks c.requires.some c.requires.few c.requires.within).far

pub side_between-requires-clause-forward : goal.side_between-requires-clause-forward
side_between-requires-clause-forward c = (over_tracks c.args.spans.now c.args.first c.args.count (record { from = pos 0; to = pos 0 }) c.requires.tracks c.requires.some c.requires.few c.requires.within).forward

pub side_between-requires-clause-near : goal.side_between-requires-clause-near
side_between-requires-clause-near c = (over_tracks c.args.spans.now c.args.first c.args.count (record { from = pos 0; to = pos 0 }) c.requires.tracks c.requires.some c.requires.few c.requires.within).near
