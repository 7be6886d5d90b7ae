use Rattle.tx_cell.proofs.CellLemmas.{IsUtf8-text}
use Rattle.tx_cell.proofs.cell.Cell.text.Goals as goal

pub from_utf8_unchecked-requires : goal.from_utf8_unchecked-requires
from_utf8_unchecked-requires c = IsUtf8-text _ c.self.invariant.seen
