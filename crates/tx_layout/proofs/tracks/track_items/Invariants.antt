use Rattle.std.proofs.Common.{◌≡◌, length, All}
use Rattle.tx_box.specs.Item.{IsSized}
use Rattle.tx_box.specs.Laws.{HasFractions}
use Rattle.tx_layout.specs.Grid.{track_items}
use Rattle.tx_layout.proofs.tracks.track_items.Given as goal

abbrev pub invariant-loop-place : goal.invariant-loop-place
invariant-loop-place l = record {
  done : l.items.items ≡ track_items l.tracks l.place;
  sized : All IsSized l.items.items;
  fractions : All HasFractions l.items.items;
  count : length l.items.items ≡ l.place;
}
