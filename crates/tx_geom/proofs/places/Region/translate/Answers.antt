use Rattle.std.proofs.Common.{arith, refl}
use Rattle.std.proofs.lemmas.Int.{ints}
use Rattle.tx_geom.proofs.Cells.{sum_written}
use Rattle.tx_geom.proofs.places.Region.translate.Goals as goal

pub returns-clause-fields : goal.returns-clause-fields
returns-clause-fields c = rw (sum_written c.args.self.x c.args.by.x c.requires.near.x c.requires.by_near.x, sum_written c.args.self.y c.args.by.y c.requires.near.y c.requires.by_near.y) refl

pub returns-clause-cells : goal.returns-clause-cells
returns-clause-cells c = omega (arith, ints)
