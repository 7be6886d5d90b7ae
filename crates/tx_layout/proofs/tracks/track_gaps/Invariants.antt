use Rattle.std.proofs.Common.{◌≡◌, All, length}
use Rattle.std.specs.Prelude.{map}
use Rattle.std.specs.List.{range_with_len}
use Rattle.tx_layout.specs.Children.{IsGap}
use Rattle.tx_layout.specs.Grid.{track_gap}
use Rattle.tx_layout.proofs.tracks.track_gaps.Given as goal

abbrev pub invariant-loop-place : goal.invariant-loop-place
invariant-loop-place l = record {
  done : l.gaps.items ≡ map (track_gap l.gutter l.count) (range_with_len 0 l.place);
  narrow : All IsGap l.gaps.items;
  count : length l.gaps.items ≡ l.place;
}
