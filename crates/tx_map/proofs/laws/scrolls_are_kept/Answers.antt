use Rattle.tx_map.proofs.Kept.{scrolls_are_kept}
use Rattle.tx_map.proofs.laws.scrolls_are_kept.Goals as goal

pub returns : goal.returns
returns c = scrolls_are_kept c.forests_keep_their_rows.ensures
