use Rattle.std.proofs.Common.{◌≡◌, ◌∙◌, sym, length}
use Rattle.tx_node_map.specs.Held.{nothing}
use Rattle.tx_sizes.proofs.Answering.{IsRead, means, own_answer, tall_answer, wide_answer}
use Rattle.tx_sizes.proofs.measures.+measuring.Goals as goal
use Rattle.tx_sizes.specs.Counts.{AreChildren}

pub returns-then-not-is_container : goal.returns-then-not-is_container
returns-then-not-is_container t c =
    own_answer c.row.result.now c.args.screen c.args.width c.args.area c.leaf_measure.result c.split_first.ensures.rows c.row.ensures
    (sym c.is_container.ensures ∙ c.if-not-is_container.true) (c.leaf_measure.ensures c.args.area)

pub returns-in-None : goal.returns-in-None
returns-in-None t c =
    let read : IsRead c.args.rows.now c.split_first.result.1.now c.split_first.result.0.now c.style-style.result.now c.depth.result c.layout.result c.in_ok-grid.grid = record {
      rows_are = c.split_first.ensures.rows;
      holds = sym c.is_container.ensures ∙ c.if-not-is_container.false;
      style_is = c.style-style.ensures;
      depth_is = c.depth.ensures;
      kind_is = c.layout.ensures;
      grid_is = c.in_ok-grid.ensures.exact;
    } in
    let children : AreChildren c.style-style.result.now c.depth.result c.split_first.result.1.now c.as_slice-styles.result.now c.as_slice-starts.result.now =
    rw (c.as_slice-styles.ensures.value, c.as_slice-starts.ensures.value) c.in_ok-children.ensures.exact in
    let as_many : length c.as_slice-styles.result.now ≡ length c.as_slice-starts.result.now =
    rw (c.as_slice-styles.ensures.value, c.as_slice-starts.ensures.value) c.in_ok-children.ensures.as_many in
    rw c.in-None.is
    (wide_answer read children nothing c.args.screen c.args.area c.wide_of.result
    (c.wide_of.ensures _ (means children as_many nothing c.args.screen _ (λ ask h r p. p.1))))

pub returns : goal.returns
returns t c =
    let read : IsRead c.args.rows.now c.split_first.result.1.now c.split_first.result.0.now c.style-style.result.now c.depth.result c.layout-in-Some.result c.in_ok-grid.grid = record {
      rows_are = c.split_first.ensures.rows;
      holds = sym c.is_container.ensures ∙ c.if-not-is_container.false;
      style_is = c.style-style.ensures;
      depth_is = c.depth.ensures;
      kind_is = c.layout-in-Some.ensures;
      grid_is = c.in_ok-grid.ensures.exact;
    } in
    let children : AreChildren c.style-style.result.now c.depth.result c.split_first.result.1.now c.as_slice-styles.result.now c.as_slice-starts.result.now =
    rw (c.as_slice-styles.ensures.value, c.as_slice-starts.ensures.value) c.in_ok-children.ensures.exact in
    let as_many : length c.as_slice-styles.result.now ≡ length c.as_slice-starts.result.now =
    rw (c.as_slice-styles.ensures.value, c.as_slice-starts.ensures.value) c.in_ok-children.ensures.as_many in
    rw c.in-Some.is
    (tall_answer read children nothing c.args.screen c.args.area c.in-Some.width c.tall_of.result
    (c.tall_of.ensures _ (means children as_many nothing c.args.screen _ (λ ask h r p. p.1))))
