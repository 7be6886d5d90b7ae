use Rattle.std.proofs.Common.{length, Ok, sym, ap, ◌∙◌, arith}
use Rattle.tx_map.proofs.Bars.{container_bars, leaf_bars}
use Rattle.tx_map.proofs.Rows.{few_boxes}
use Rattle.tx_map.proofs.barring.bars_of.Goals as goal

pub returns-then-not-is_container-clause-exact : goal.returns-then-not-is_container-clause-exact
returns-then-not-is_container-clause-exact g c =
    leaf_bars c.args.screen c.args.own.now c.args.behind.now c.args.content (sym c.is_container.ensures ∙ c.if-not-is_container.true) ∙ ap (λ b. Ok b) (sym c.without_children.ensures)

pub bars_beside-requires-clause-count : goal.bars_beside-requires-clause-count
bars_beside-requires-clause-count g c =
    let few = few_boxes c.style-style.result.now c.depth-depth.result c.args.behind.now in
    omega (arith, few, c.requires.few, ap length c.in_ok-children.ensures.exact.boxes, ap length c.as_slice.ensures.value)

pub returns-clause-exact : goal.returns-clause-exact
returns-clause-exact g c =
    rw (container_bars c.args.screen c.args.own.now c.args.behind.now c.args.content (sym c.is_container.ensures ∙ c.if-not-is_container.false), sym c.style-style.ensures, sym c.depth-depth.ensures)
    c.bars_beside.ensures.exact
