use Rattle.tx_map.proofs.Shown.{shown_have_entries}
use Rattle.tx_map.proofs.laws.shown_have_entries.Goals as goal

pub returns : goal.returns
returns c = shown_have_entries c.celled_have_regions.ensures c.shows_the_arrangement_beside_the_bars.ensures
