use Rattle.tx_layout.proofs.Greatest.{over_push}
use Rattle.tx_layout.proofs.arranging.over_with.Goals as goal

pub returns : goal.returns
returns c done is l at =
    rw (c.max.ensures, c.max-2.ensures, c.past.ensures, c.past-2.ensures)
    (over_push done l c.args.over _ _ is at)
