use Rattle.std.proofs.Common.{◌≡◌, length}
use Rattle.std.specs.Prelude.{All}
use Rattle.tx_box.specs.Item.{IsSized}
use Rattle.tx_box.proofs.tests.ordinary_shares.Given as goal

abbrev pub invariant-loop-index : goal.invariant-loop-index
invariant-loop-index l = record { sized : All IsSized l.items.items; count : length l.items.items ≡ l.index }
