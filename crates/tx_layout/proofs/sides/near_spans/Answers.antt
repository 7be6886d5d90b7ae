use Rattle.std.proofs.Common.{◌≡◌, ◌≤◌, ◌^◌, length, arith}
use Rattle.tx_layout.proofs.Following.{if_three}
use Rattle.tx_layout.proofs.Reaching.{near_spans}
use Rattle.tx_layout.proofs.sides.near_spans.Goals as goal

pub returns-clause-cells : goal.returns-clause-cells
returns-clause-cells c =
    if_three _ _ _ _
    (λ v count near cells.
    let few : length v.items ≤ 2 ^ 24 = omega (arith, count, c.requires.count) in
    near_spans c.args.gaps.now v.items few c.requires.narrow near cells)
    c.resolve_axis.result c.resolve_axis.ensures.count c.resolve_axis.ensures.near c.resolve_axis.ensures.cells
