use Rattle.tx_grid.proofs.Bits.{adds_written}
use Rattle.tx_grid.proofs.taken.with_columns.Goals as goal

pub returns : goal.returns
returns c = adds_written c.args.row c.bits_of.result c.args.column c.args.width c.bits_of.ensures
