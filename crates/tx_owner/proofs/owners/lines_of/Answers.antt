use Rattle.std.proofs.Common.{map}
use Rattle.std.specs.List.{range_with_len}
use Rattle.tx_owner.specs.Panes.{first_at}
use Rattle.tx_owner.proofs.Ranges.{next_place}
use Rattle.tx_owner.proofs.owners.lines_of.Goals as goal

pub loop-y-preserved : goal.loop-y-preserved
loop-y-preserved c =
    rw (c.in_ok-push.ensures {u = tt}).items
    (next_place (λ y. map (λ x. first_at x y c.args.panes.now) (range_with_len 0 c.args.size.width)) c.loop-y.y c.loop-y.lines.items c.in_ok-line.line c.loop-y.invariant (c.in_ok-line.ensures {u = tt}))
