use Rattle.std.proofs.Common.{arith, get_or}
use Rattle.tx_layout.proofs.Runs.{cut_before, cut_at_end}
use Rattle.tx_layout.proofs.layers.layer_len.Goals as goal

pub returns-then-children-index-clause-cut : goal.returns-then-children-index-clause-cut
returns-then-children-index-clause-cut c =
    let i = c.loop-index.invariant in
    cut_before (get_or c.args.children.now 0 c.index-children-0.result).style.layer c.args.children.now c.loop-index.index c.index-children-index.result (omega arith) (omega arith) c.if-children-index.true i.one

pub returns-clause-cut : goal.returns-clause-cut
returns-clause-cut c =
    let i = c.loop-index.invariant in
    cut_at_end (get_or c.args.children.now 0 c.index-children-0.result).style.layer c.args.children.now c.loop-index.index (omega arith) (omega arith) i.one
