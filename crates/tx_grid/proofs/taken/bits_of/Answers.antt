use Rattle.std.proofs.Common.{arith, ◌+◌}
use Rattle.tx_grid.proofs.Bits.{bits_written}
use Rattle.tx_grid.proofs.taken.bits_of.Goals as goal

pub overflow_sub-result : goal.overflow_sub-result
overflow_sub-result c = (bits_written c.args.column (c.args.column + c.args.width) (omega arith) (omega (arith, c.requires))).0

pub returns : goal.returns
returns c = (bits_written c.args.column (c.args.column + c.args.width) (omega arith) (omega (arith, c.requires))).1
