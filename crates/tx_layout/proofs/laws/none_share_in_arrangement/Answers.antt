use Rattle.tx_layout.proofs.Filling.{none_share_cells}
use Rattle.tx_layout.proofs.Unshared.{none_share_in_arrangement}
use Rattle.tx_layout.proofs.laws.none_share_in_arrangement.Goals as goal

pub returns : goal.returns
returns c =
    none_share_in_arrangement
    (record {
      follow = c.spans_follow.ensures;
      first = c.each_stands_first.ensures;
      apart = c.none_share_cells.ensures;
      line = none_share_cells c.spans_follow.ensures;
    })
