use Rattle.std.proofs.Common.{◌≡◌, drop}
use Rattle.tx_box.specs.Item.{NotNegative}
use Rattle.tx_box.specs.Sizes.{cells}
use Rattle.tx_box.specs.Axis.{shares, total_from}
use Rattle.tx_box.proofs.rounds.share_sum.Given as goal

abbrev pub invariant-loop-part : goal.invariant-loop-part
invariant-loop-part l = record {
  done : total_from (cells 0) (shares l.parts) ≡ total_from l.sum (shares (drop l.part-index l.parts));
  not_negative : NotNegative l.sum;
}
