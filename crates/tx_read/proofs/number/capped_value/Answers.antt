use Rattle.std.proofs.Common.{arith}
use Rattle.tx_read.proofs.NumberLemmas.{value-take_more}
use Rattle.tx_read.proofs.number.capped_value.Goals as goal

pub loop-byte-preserved : goal.loop-byte-preserved
loop-byte-preserved c = grind (arith, value-take_more)
