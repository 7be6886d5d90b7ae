use Rattle.std.proofs.Common.{◌∙◌}
use Rattle.tx_cell.proofs.CellLemmas.{IsStored-padded}
use Rattle.tx_cell.proofs.cell.Cell.shown.Goals as goal

pub invariant_of-result : goal.invariant_of-result
invariant_of-result c =
    rw (c.copy_from_slice.ensures.after ∙ c.as_bytes.ensures.value) (IsStored-padded _ _ _ c.requires.fits c.requires.visible c.requires.own)
