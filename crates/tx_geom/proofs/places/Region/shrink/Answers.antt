use Rattle.std.proofs.Common.{arith}
use Rattle.std.proofs.lemmas.Int.{ints}
use Rattle.tx_geom.proofs.places.Region.shrink.Goals as goal

pub returns-clause-cells : goal.returns-clause-cells
returns-clause-cells c = omega (arith, ints)
