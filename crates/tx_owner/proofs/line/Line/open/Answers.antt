use Rattle.std.proofs.Common.{replicate}
use Rattle.std.specs.Prelude.{None}
use Rattle.std.proofs.lemmas.List.{length-replicate}
use Rattle.tx_owner.proofs.Links.{links_stay}
use Rattle.tx_owner.proofs.line.Line.open.Goals as goal

pub invariant_of-result : goal.invariant_of-result
invariant_of-result c = rw (c.in_ok-cells.ensures {u = tt}, c.in_ok-links.ensures {u = tt}) (links_stay c.args.width, length-replicate c.args.width None)
